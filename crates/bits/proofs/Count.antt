-- How many numbers below n pass a test; and counting along an injection.
-- Assumes nothing.
use mathlib.Core.Path.{◌≡◌, refl, ap, ◌∙◌}
use mathlib.Core.Bool.{Bool, true, false, not, cond, ◌&&◌, ◌||◌}
use mathlib.Core.Logic.{◌≢◌}
use Prim.Native.Nat.{ℕ, zero, suc, ◌+◌, ◌-◌, ◌≤◌, ◌<◌, zero-le}
use native.Mathlib.Nat.{le_refl, add-zero, add-suc, not-suc-le-zero}
use native.Mathlib.Numerals.{add-one}
use native.Mathlib.Omega.{arith}
use lib.Dec.{eqb}
use borrow.Author.Tests.{eq-eqb, ne_eqb}
use Rattle.bits.specs.definitions.Bits.{count}

-- it depends on the first n answers alone
pub count_cong : (n : ℕ) (p q : ℕ → Bool) → ((i : ℕ) → i < n → p i ≡ q i) → count p n ≡ count q n
unfolding count
count_cong zero p q h = refl
count_cong (suc n) p q h = λ k. cond (h n (le_refl (suc n)) k) 1 0 + count_cong n p q (λ i l. h i (omega arith)) k

pub count_append : (p : ℕ → Bool) (n m : ℕ) → count p (n + m) ≡ count p n + count (λ i. p (n + i)) m
unfolding count
count_append p n zero = rw (add-zero n) (omega arith)
count_append p n (suc m) = rw (add-suc, count_append p n m) (omega arith)

-- a test adds at most one
pub at_most_one : (b : Bool) → cond b 1 0 ≤ 1
at_most_one true = le_refl 1
at_most_one false = zero-le

pub count_le : (p : ℕ → Bool) (n : ℕ) → count p n ≤ n
unfolding count
count_le p zero = zero-le
count_le p (suc n) = omega (arith, at_most_one (p n), count_le p n)

-- one more is tried
pub count_more : (p : ℕ → Bool) (n : ℕ) {m x : ℕ} → m ≡ count p n → x ≡ cond (p n) 1 0 → m + x ≡ count p (n + 1)
unfolding count
count_more p n e q = rw (add-one, e, q) (omega arith)

-- those that pass a test and those that fail it are all there are
pub count_both : (p : ℕ → Bool) (n : ℕ) → count p n + count (λ i. not (p i)) n ≡ n
unfolding count
count_both p zero = refl
count_both p (suc n) = omega (arith, one (p n), count_both p n)
  where
    one : (b : Bool) → cond b 1 0 + cond (not b) 1 0 ≡ 1
    one true = refl
    one false = refl

pub count_or_le : (p q : ℕ → Bool) (n : ℕ) → count (λ i. p i || q i) n ≤ count p n + count q n
unfolding count
count_or_le p q zero = zero-le
count_or_le p q (suc n) = omega (arith, either (p n) (q n), count_or_le p q n)
  where
    either : (a b : Bool) → cond (a || b) 1 0 ≤ cond a 1 0 + cond b 1 0
    either true b = omega arith
    either false b = omega arith

pub count_none : (p : ℕ → Bool) (n : ℕ) → ((i : ℕ) → i < n → p i ≡ false) → count p n ≡ 0
unfolding count
count_none p zero h = refl
count_none p (suc n) h = rw (h n (le_refl (suc n)), count_none p n (λ i l. h i (omega arith)))

-- a count that is not 0 has one that passes
pub count_some : (p : ℕ → Bool) (n : ℕ) → 0 < count p n → (i : ℕ) × (i < n) × (p i ≡ true)
unfolding count
count_some p zero h = absurd (not-suc-le-zero h)
count_some p (suc n) h = go (p n) refl (count_some p n) h
  where
    go : (b : Bool) → p n ≡ b → (0 < count p n → (i : ℕ) × (i < n) × (p i ≡ true)) → 0 < cond b 1 0 + count p n
        → (i : ℕ) × (i < suc n) × (p i ≡ true)
    go true e ih h = (n, le_refl (suc n), e)
    go false e ih h = let r = ih (omega arith) in (r.0, omega arith, r.2)

-- the same test, but it fails at k
without : ℕ → (ℕ → Bool) → ℕ → Bool
without k p i = not (eqb i k) && p i

module _ (k : ℕ) (p : ℕ → Bool) where
  without_self : without k p k ≡ false
  unfolding without
  without_self = rw (eq-eqb k k refl)

  without_other : (i : ℕ) → i ≢ k → without k p i ≡ p i
  unfolding without
  without_other i n = rw (ne_eqb i k n)

  count_without : (n : ℕ) → k < n → p k ≡ true → count p n ≡ suc (count (without k p) n)
  unfolding count
  count_without n h t = rw (at p, at (without k p), t, without_self, below, above) (omega arith)
    where
      m : ℕ
      m = n - suc k

      at : (q : ℕ → Bool) → count q n ≡ cond (q k) 1 0 + count q k + count (λ i. q (suc k + i)) m
      at q = let whole : n ≡ suc k + m = omega arith in ap (count q) whole ∙ count_append q (suc k) m

      below : count (without k p) k ≡ count p k
      below = count_cong k (without k p) p (λ i l. without_other i (omega arith))

      above : count (λ i. without k p (suc k + i)) m ≡ count (λ i. p (suc k + i)) m
      above = count_cong m _ _ (λ i l. without_other (suc k + i) (omega arith))

-- one that passes makes a count that is not 0
pub count_pos : (p : ℕ → Bool) (n i : ℕ) → i < n → p i ≡ true → 0 < count p n
count_pos p n i h t = omega (arith, count_without i p n h t)

-- those that pass p, by whether they pass q
count_split : (p q : ℕ → Bool) (n : ℕ) → count (λ i. p i && q i) n + count (λ i. p i && not (q i)) n ≡ count p n
unfolding count
count_split p q zero = refl
count_split p q (suc n) = omega (arith, of_this (p n) (q n), count_split p q n)
  where
    of_this : (x y : Bool) → cond (x && y) 1 0 + cond (x && not y) 1 0 ≡ cond x 1 0
    of_this true true = refl
    of_this true false = refl
    of_this false y = refl

-- where as many pass both as pass p, all that pass p pass q
pub count_all : (p q : ℕ → Bool) (n : ℕ) → count (λ i. p i && q i) n ≡ count p n → (i : ℕ) → i < n → p i ≡ true → q i ≡ true
count_all p q n e i h t = go (q i) refl
  where
    go : (b : Bool) → q i ≡ b → q i ≡ true
    go true f = f
    go false f = absurd (omega (arith, count_split p q n, count_pos (λ j. p j && not (q j)) n i h (rw (t, f) refl)))

-- f takes the numbers below n that pass p to numbers below m that pass q, no two to one
pub count_inject : (p : ℕ → Bool) (n : ℕ) (q : ℕ → Bool) (m : ℕ) (f : ℕ → ℕ)
    → ((i : ℕ) → i < n → p i ≡ true → (f i < m) × (q (f i) ≡ true))
    → ((i j : ℕ) → i < n → j < n → p i ≡ true → p j ≡ true → f i ≡ f j → i ≡ j)
    → count p n ≤ count q m
unfolding count
count_inject p zero q m f into one = zero-le
count_inject p (suc n) q m f into one =
    go (λ q into. count_inject p n q m f into (λ i j hi hj. one i j (omega arith) (omega arith))) (p n) refl
  where
    new : p n ≡ true → (i : ℕ) → i < n → p i ≡ true → f i ≢ f n
    new e i h t s = let c = one i n (omega arith) (omega arith) t e s in omega arith

    go : ((q : ℕ → Bool) → ((i : ℕ) → i < n → p i ≡ true → (f i < m) × (q (f i) ≡ true)) → count p n ≤ count q m)
        → (b : Bool) → p n ≡ b → cond b 1 0 + count p n ≤ count q m
    go ih false e = omega (arith, ih q (λ i h. into i (omega arith)))
    go ih true e =
        let k = into n (omega arith) e in
        let rest = ih (without (f n) q) (λ i h t. let r = into i (omega arith) t in (r.0, without_other (f n) q (f i) (new e i h t) ∙ r.1)) in
        omega (arith, count_without (f n) q m k.0 k.1)
