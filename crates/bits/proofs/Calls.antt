-- Laws of every call: a test that passed or failed, and what a number leaves in a buffer or in a number lent.
-- Assumes nothing.
use mathlib.Core.Path.{◌≡◌, refl, sym, ◌∙◌}
use mathlib.Core.Logic.{◌≢◌}
use mathlib.Core.List.{List}
use Prim.Native.Nat.{ℕ, suc}
use native.Mathlib.Decide.{ℕ_discrete}
use native.Mathlib.Omega.{arith}
use lib.ListN.{length}
use borrow.Author.Tests.{eq-eqb, ne_eqb}
use Rattle.bits.specs.definitions.Call.{unless, after}

-- by whether a test holds
pub by_test : {A G : Type 0} → Dec A → ((A → ⊥) → G) → (A → G) → G
by_test (no h) f t = f h
by_test (yes h) f t = t h

pub passed : (n : ℕ) (s : List ℕ) (r t : ℕ) → length s ≡ n → unless n s r t ≡ t
passed n s r t e = rw (eq-eqb (length s) n e) refl

pub failed : (n : ℕ) (s : List ℕ) (r t : ℕ) → (length s ≡ n → ⊥) → unless n s r t ≡ r
failed n s r t e = rw (ne_eqb (length s) n e) refl

-- an answer of 0 says that the test passed
pub passes : (n : ℕ) (s : List ℕ) (k t : ℕ) → unless n s (suc k) t ≡ 0 → (length s ≡ n) × (t ≡ 0)
passes n s k t e = go (ℕ_discrete (length s) n)
  where
    go : Dec (length s ≡ n) → (length s ≡ n) × (t ≡ 0)
    go (yes h) = (h, sym (passed n s (suc k) t h) ∙ e)
    go (no h) = let f : suc k ≡ 0 = sym (failed n s (suc k) t h) ∙ e in absurd (omega arith)

-- a refused call leaves what was there, a call that was done what is new
pub left : {A : Type 0} (r k : ℕ) (new old : A) → r ≡ suc k → after r new old ≡ old
left r k new old e = rw (ne_eqb r 0 (λ z. omega arith)) refl

pub written : {A : Type 0} (r : ℕ) (new old : A) → r ≡ 0 → after r new old ≡ new
written r new old e = rw e refl

pub kept : {A : Type 0} (r n : ℕ) (new old out : A) → r ≡ n → out ≡ after n new old → r ≢ 0 → out ≡ old
kept r n new old out e o z = o ∙ rw (ne_eqb n 0 (λ m. z (e ∙ m))) refl
