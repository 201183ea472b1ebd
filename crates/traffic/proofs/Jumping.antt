-- Jumping ahead: the states behind 1 are sums of 31 of them, and those behind any other state are the same sums; and the loop that makes such a sum.
-- Assumes nothing.
use mathlib.Core.Path.{◌≡◌, refl, sym, ap, ap₂, ◌∙◌}
use mathlib.Core.Bool.{Bool}
use Prim.Native.Nat.{ℕ, zero, suc, ◌+◌, ◌*◌, ◌-◌, ◌/◌, ◌%◌, ◌^◌, ◌≤◌, ◌<◌, zero-le}
use native.Mathlib.Nat.{div-one, zero-add}
use native.Mathlib.Decide.{dec_lt}
use native.Mathlib.Omega.{arith}
use lib.Dec.{T, eqb, eqb→eq, lit<, lit≤}
use lib.Pow.{shr_le, shl_exact}
use lib.Bits.{bit_xor, xor_lt, xor_comm, xor_shr, xor_zero_r}
use Rattle.bits.proofs.Table.{each, range_rule}
use Rattle.bits.proofs.Xor.{xor_assoc, xor_four, xor_cancel_r}
use Rattle.bits.proofs.Sums.{sum_at, sum_xor, sum_cong, sum_empty, sum_none, sum_one, sum_rest, linear_agree}
use Rattle.traffic.specs.definitions.Register.{entering, next_state, state_from}
use Rattle.traffic.specs.private.Stream.{terms_of, AsFar}
use Rattle.traffic.proofs.Register.{next_xor, from_xor, from_lt, from_add, window}

-- ---- the register's rule over states: the state 31 bits on is the sum of the one three bits on and this one

rule_ok : ℕ → Bool
rule_ok i = eqb (state_from (2 ^ i) 31) (bit_xor (state_from (2 ^ i) 3) (2 ^ i))

rule_test : T (each rule_ok 31 0)
unfolding rule_ok state_from next_state entering
rule_test = tt

from_none : (n : ℕ) → state_from 0 n ≡ 0
unfolding state_from next_state entering
from_none zero = refl
from_none (suc n) = ap next_state (from_none n)

pub rule : (s : ℕ) → s < 2 ^ 31 → state_from s 31 ≡ bit_xor (state_from s 3) s
unfolding rule_ok
rule =
    linear_agree 31 (λ s. state_from s 31) (λ s. bit_xor (state_from s 3) s) (from_none 31) (ap (λ (x : ℕ). bit_xor x 0) (from_none 3)) (λ x y. from_xor x y 31)
    (λ x y. ap (λ (z : ℕ). bit_xor z (bit_xor x y)) (from_xor x y 3) ∙ xor_four (state_from x 3) (state_from y 3) x y)
    (λ i h. eqb→eq _ _ (range_rule rule_ok 31 0 rule_test i zero-le h))

-- ---- the terms of a state

pub terms_xor : (a b : ℕ) → terms_of (bit_xor a b) ≡ bit_xor (terms_of a) (terms_of b)
terms_xor a b = ap (bit_xor (bit_xor a b)) (xor_shr a b 28) ∙ xor_four a b (a / 2 ^ 28) (b / 2 ^ 28)

pub terms_lt : (a : ℕ) → a < 2 ^ 31 → terms_of a < 2 ^ 31
terms_lt a h = xor_lt 31 a (a / 2 ^ 28) h (omega (arith, shr_le a 28))

-- the same the other way
pub terms_back : (a : ℕ) → a < 2 ^ 31 → terms_of (terms_of a) ≡ a
terms_back a h =
    let none : a / 2 ^ 28 / 2 ^ 28 ≡ 0 = omega arith in
    ap (bit_xor (terms_of a)) (xor_shr a (a / 2 ^ 28) 28 ∙ ap (bit_xor (a / 2 ^ 28)) none ∙ xor_zero_r (a / 2 ^ 28)) ∙ xor_cancel_r a (a / 2 ^ 28)

-- a step takes each term to the next, and the last to the first and the fourth
step_ok : ℕ → Bool
step_ok i = eqb (terms_of (next_state (terms_of (2 ^ i)))) (2 ^ suc i)

step_test : T (each step_ok 30 0)
unfolding step_ok next_state entering
step_test = tt

module _ (s : ℕ) (h : s < 2 ^ 31) where
  terms_step : (c : ℕ) → c < 2 ^ 31 → sum_at 31 (state_from s) (terms_of (next_state (terms_of c))) ≡ next_state (sum_at 31 (state_from s) c)
  unfolding step_ok next_state entering state_from
  terms_step =
      linear_agree 31 (λ c. sum_at 31 (state_from s) (terms_of (next_state (terms_of c)))) (λ c. next_state (sum_at 31 (state_from s) c))
      (sum_none 31 (state_from s))
      (ap next_state (sum_none 31 (state_from s)))
      (λ x y.
      ap (sum_at 31 (state_from s)) (ap terms_of (ap next_state (terms_xor x y) ∙ next_xor (terms_of x) (terms_of y))
      ∙ terms_xor (next_state (terms_of x)) (next_state (terms_of y)))
      ∙ sum_xor 31 (state_from s) (terms_of (next_state (terms_of x))) (terms_of (next_state (terms_of y))))
      (λ x y. ap next_state (sum_xor 31 (state_from s) x y) ∙ next_xor (sum_at 31 (state_from s) x) (sum_at 31 (state_from s) y))
      (λ i l. at i (dec_lt i 30) l)
    where
      last : sum_at 31 (state_from s) (terms_of (next_state (terms_of (2 ^ 30)))) ≡ state_from s 31
      last = sum_xor 31 (state_from s) (2 ^ 3) (2 ^ 0) ∙ ap₂ bit_xor (sum_one 31 (state_from s) 3 (lit< tt)) (sum_one 31 (state_from s) 0 (lit< tt))
          ∙ sym (rule s h)

      at : (i : ℕ) → Dec (i < 30) → i < 31
          → sum_at 31 (state_from s) (terms_of (next_state (terms_of (2 ^ i)))) ≡ next_state (sum_at 31 (state_from s) (2 ^ i))
      at i (yes b) l =
          ap (sum_at 31 (state_from s)) (eqb→eq _ _ (range_rule step_ok 30 0 step_test i zero-le b)) ∙ sum_one 31 (state_from s) (suc i) (omega arith)
          ∙ ap next_state (sym (sum_one 31 (state_from s) i l))
      at i (no b) l =
          let e : i ≡ 30 = omega arith in
          ap (λ (j : ℕ). sum_at 31 (state_from s) (terms_of (next_state (terms_of (2 ^ j))))) e ∙ last
          ∙ ap next_state (sym (sum_one 31 (state_from s) 30 (lit< tt))) ∙ ap (λ (j : ℕ). next_state (sum_at 31 (state_from s) (2 ^ j))) (sym e)

  -- so the state n bits behind s is the sum of states behind s whose terms are those of the state n bits behind 1
  pub far : (n : ℕ) → sum_at 31 (state_from s) (terms_of (state_from 1 n)) ≡ state_from s n
  unfolding state_from
  far zero = sum_one 31 (state_from s) 0 (lit< tt)
  far (suc n) =
      let one : state_from 1 n < 2 ^ 31 = from_lt 1 n (lit< tt) in
      ap (λ (x : ℕ). sum_at 31 (state_from s) (terms_of (next_state x))) (sym (terms_back (state_from 1 n) one))
      ∙ terms_step (terms_of (state_from 1 n)) (terms_lt (state_from 1 n) one) ∙ ap next_state (far n)

-- ---- `for i in 0..31 { sum ^= (terms >> i) % 2 * f i }`

pub picked_lt : (b y : ℕ) → b < 2 → y < 2 ^ 31 → b * y < 2 ^ 31
picked_lt zero y h l = omega arith
picked_lt (suc zero) y h l = omega arith
picked_lt (suc (suc b)) y h l = absurd (omega arith)

-- sum is that of the first i terms: with the others it is the whole
pub record Summing (f : ℕ → ℕ) (terms sum i : ℕ) : Type 0 where
  pub fits : sum < 2 ^ 31
  pub is : bit_xor sum (sum_at (31 - i) (λ j. f (i + j)) (terms / 2 ^ i)) ≡ sum_at 31 f terms

module _ (f : ℕ → ℕ) (terms : ℕ) where
  pub summing_start : Summing f terms 0 0
  summing_start =
      record {
        fits = lit< tt;
        is = sum_cong 31 (λ j. f (0 + j)) f (terms / 1) (λ j _. ap f (zero-add j)) ∙ ap (sum_at 31 f) (div-one terms);
      }

  pub summing_step : {sum i y : ℕ} → Summing f terms sum i → i < 31 → y ≡ f i → y < 2 ^ 31 → Summing f terms (bit_xor sum (terms / 2 ^ i % 2 * y)) (i + 1)
  summing_step {sum} {i} {y} S h e l =
      record {
        fits = xor_lt 31 sum (terms / 2 ^ i % 2 * y) S.fits (picked_lt (terms / 2 ^ i % 2) y (omega arith) l);
        is =
            xor_assoc sum (terms / 2 ^ i % 2 * y) rest
            ∙ ap (bit_xor sum) (xor_comm (terms / 2 ^ i % 2 * y) rest ∙ ap (λ (x : ℕ). bit_xor rest (terms / 2 ^ i % 2 * x)) e ∙ sym (sum_rest 31 f terms i h))
            ∙ S.is;
      }
    where
      rest : ℕ
      rest = sum_at (31 - (i + 1)) (λ j. f (i + 1 + j)) (terms / 2 ^ (i + 1))

  pub summing_done : {sum i : ℕ} → Summing f terms sum i → 31 ≤ i → sum ≡ sum_at 31 f terms
  summing_done {sum} {i} S h =
      let e : 31 - i ≡ 0 = omega arith in
      sym (xor_zero_r sum) ∙ ap (bit_xor sum) (sym (ap (λ (k : ℕ). sum_at k (λ j. f (i + j)) (terms / 2 ^ i)) e ∙ sum_empty (λ j. f (i + j)) (terms / 2 ^ i)))
      ∙ S.is

-- ---- as far as another

-- the first 31 states behind s stand in one number
pub states_at : (s : ℕ) {x y : ℕ} (i : ℕ) → s < 2 ^ 31 → x ≡ state_from s 28 → y ≡ state_from x 3 → i < 31
    → (s * 2 ^ 31 % 2 ^ 64 + y) / 2 ^ (31 - i) % 2 ^ 31 ≡ state_from s i
states_at s {x} {y} i h ex ey l =
    ap₂ (λ (u v : ℕ). (u + v) / 2 ^ (31 - i) % 2 ^ 31) (shl_exact 31 31 64 h (lit≤ tt)) (ey ∙ ap (λ (z : ℕ). state_from z 3) ex ∙ sym (from_add s 28 3))
    ∙ window s i h l

-- the sum of those that a's terms pick
pub as_far : (a s : ℕ) {sum : ℕ} → s < 2 ^ 31 → sum ≡ sum_at 31 (state_from s) (terms_of a) → AsFar a s sum
as_far a s h e = record { far = λ n is. e ∙ ap (λ (x : ℕ). sum_at 31 (state_from s) (terms_of x)) is ∙ far s h n }
