-- The smallest number that passes a test: none below it does, it does if it is one of those tried, and nothing else is so.
-- Assumes nothing.
use mathlib.Core.Path.{◌≡◌, refl, ap}
use mathlib.Core.Bool.{Bool, true, false, cond}
use Prim.Native.Nat.{ℕ, zero, suc, ◌≤◌, ◌<◌, zero-le}
use native.Mathlib.Nat.{not-suc-le-zero}
use native.Mathlib.Omega.{arith}
use Rattle.bits.specs.definitions.Bits.{least}

-- it is one of the n tried, or n
pub least_le : (p : ℕ → Bool) (n : ℕ) → least p n ≤ n
unfolding least
least_le p zero = zero-le
least_le p (suc n) = go (p 0) (least_le (λ i. p (suc i)) n)
  where
    go : (b : Bool) {m : ℕ} → m ≤ n → cond b 0 (suc m) ≤ suc n
    go true h = zero-le
    go false h = omega arith

-- o is it where o passes, or is n, and none below o passes
pub least_is : (p : ℕ → Bool) (n o : ℕ) → o ≤ n → (o < n → p o ≡ true) → ((i : ℕ) → i < o → p i ≡ false) → least p n ≡ o
unfolding least
least_is p zero o h passes fails = omega arith
least_is p (suc n) zero h passes fails = rw (passes (omega arith)) refl
least_is p (suc n) (suc o) h passes fails =
    rw (fails 0 (omega arith)) (ap suc (least_is (λ i. p (suc i)) n o (omega arith) (λ l. passes (omega arith)) (λ i l. fails (suc i) (omega arith))))

-- it passes if it is one of those tried
pub least_passes : (p : ℕ → Bool) (n : ℕ) → least p n < n → p (least p n) ≡ true
unfolding least
least_passes p zero h = absurd (not-suc-le-zero h)
least_passes p (suc n) h = go (p 0) refl (least_passes (λ i. p (suc i)) n) h
  where
    m : ℕ
    m = least (λ i. p (suc i)) n

    go : (b : Bool) → p 0 ≡ b → (m < n → p (suc m) ≡ true) → cond b 0 (suc m) < suc n → p (cond b 0 (suc m)) ≡ true
    go true e ih h = e
    go false e ih h = ih (omega arith)

-- and none below it passes
pub least_fails : (p : ℕ → Bool) (n i : ℕ) → i < least p n → p i ≡ false
unfolding least
least_fails p zero i h = absurd (not-suc-le-zero h)
least_fails p (suc n) i h = go (p 0) refl i (λ j. least_fails (λ k. p (suc k)) n j) h
  where
    m : ℕ
    m = least (λ k. p (suc k)) n

    go : (b : Bool) → p 0 ≡ b → (i : ℕ) → ((j : ℕ) → j < m → p (suc j) ≡ false) → i < cond b 0 (suc m) → p i ≡ false
    go true e i ih h = absurd (not-suc-le-zero h)
    go false e zero ih h = e
    go false e (suc i) ih h = ih i (omega arith)
