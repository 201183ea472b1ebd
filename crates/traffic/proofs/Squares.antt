-- Twice as far: the square of a sum is the sum of the squares. What `doubled` computes is linear, squaring is, and they agree at one term.
-- Assumes nothing.
use mathlib.Core.Path.{◌≡◌, sym, ap, ap₂, ◌∙◌}
use mathlib.Core.Bool.{Bool}
use Prim.Native.Nat.{ℕ, ◌+◌, ◌*◌, ◌/◌, ◌%◌, ◌^◌, ◌<◌, zero-le}
use native.Mathlib.Nat.{add_comm, mod-lt, lt_of_le_of_lt}
use native.Mathlib.Omega.{arith}
use lib.Dec.{T, eqb, eqb→eq, lit<}
use lib.Bits.{bit_and, bit_xor, xor_lt, xor_self, xor_shr, xor_mod, and_le_r}
use Rattle.bits.proofs.Table.{each, range_rule}
use Rattle.bits.proofs.Xor.{xor_assoc, xor_four, xor_cancel, xor_shl, and_xor}
use Rattle.bits.proofs.Sums.{sum_at, sum_xor, sum_both, sum_cong, sum_none, sum_one, sums_linear, linear_agree}
use Rattle.traffic.specs.definitions.Register.{entering, next_state, state_from}
use Rattle.traffic.specs.private.Stream.{terms_of, parted_of, spread_of, reduced_of, Doubled}
use Rattle.traffic.proofs.Register.{from_xor, from_add}
use Rattle.traffic.proofs.Jumping.{terms_xor, terms_back, terms_lt, far}

-- ---- what is computed is linear

-- f of a sum is the sum of what it is of each
record Linear (f : ℕ → ℕ) : Type 0 where
  xor : (x y : ℕ) → f (bit_xor x y) ≡ bit_xor (f x) (f y)

composed : {f g : ℕ → ℕ} → Linear f → Linear g → Linear (λ x. f (g x))
composed {f} {g} F G = record { xor = λ x y. ap f (G.xor x y) ∙ F.xor (g x) (g y) }

parted_linear : (k mask : ℕ) → Linear (parted_of k mask)
unfolding parted_of
parted_linear k mask =
    record {
      xor =
          λ x y.
          ap (λ (z : ℕ). bit_and z mask) (ap (bit_xor (bit_xor x y)) (xor_shl x y k 64) ∙ xor_four x y (x * 2 ^ k % 2 ^ 64) (y * 2 ^ k % 2 ^ 64))
          ∙ and_xor (bit_xor x (x * 2 ^ k % 2 ^ 64)) (bit_xor y (y * 2 ^ k % 2 ^ 64)) mask;
    }

spread_linear : Linear spread_of
unfolding spread_of
spread_linear = composed (parted_linear 1 _) (composed (parted_linear 2 _) (composed (parted_linear 4 _) (composed (parted_linear 8 _) (parted_linear 16 _))))

reduced_linear : Linear reduced_of
unfolding reduced_of
reduced_linear =
    record {
      xor =
          λ x y.
          ap₂ bit_xor (ap₂ bit_xor (xor_mod x y 31) (xor_shr x y 31) ∙ xor_four (x % 2 ^ 31) (y % 2 ^ 31) (x / 2 ^ 31) (y / 2 ^ 31))
          (ap (λ (z : ℕ). z * 2 ^ 3 % 2 ^ 64) (xor_shr x y 31) ∙ xor_shl (x / 2 ^ 31) (y / 2 ^ 31) 3 64)
          ∙ xor_four (bit_xor (x % 2 ^ 31) (x / 2 ^ 31)) (bit_xor (y % 2 ^ 31) (y / 2 ^ 31)) (x / 2 ^ 31 * 2 ^ 3 % 2 ^ 64) (y / 2 ^ 31 * 2 ^ 3 % 2 ^ 64);
    }

-- `doubled` over terms
square_of : ℕ → ℕ
square_of c = terms_of (reduced_of (reduced_of (spread_of c)))

square_linear : Linear square_of
unfolding square_of
square_linear = composed {f = terms_of} (record { xor = terms_xor }) (composed reduced_linear (composed reduced_linear spread_linear))

-- the square of term i is the state 2 i bits behind 1
square_ok : ℕ → Bool
square_ok i = eqb (state_from 1 (i + i)) (square_of (2 ^ i))

square_test : T (each square_ok 31 0)
unfolding square_ok square_of spread_of parted_of reduced_of state_from next_state entering
square_test = tt

square_sum : (c : ℕ) → c < 2 ^ 31 → sum_at 31 (λ i. state_from 1 (i + i)) c ≡ square_of c
unfolding square_ok
square_sum =
    sums_linear 31 (λ i. state_from 1 (i + i)) square_of (square_linear.xor 0 0 ∙ xor_self (square_of 0)) (λ x y _ _. square_linear.xor x y)
    (λ i h. eqb→eq _ _ (range_rule square_ok 31 0 square_test i zero-le h))

-- ---- and so is squaring

-- the sum of two sums' states, each with each: of those behind the state with the terms d, those that c picks
abbrev product : ℕ → ℕ → ℕ
product d c = sum_at 31 (state_from (terms_of d)) c

product_xor : (d e c : ℕ) → product (bit_xor d e) c ≡ bit_xor (product d c) (product e c)
product_xor d e c =
    ap (λ (s : ℕ). sum_at 31 (state_from s) c) (terms_xor d e)
    ∙ sum_cong 31 (state_from (bit_xor (terms_of d) (terms_of e))) (λ i. bit_xor (state_from (terms_of d) i) (state_from (terms_of e) i)) c
    (λ i _. from_xor (terms_of d) (terms_of e) i) ∙ sum_both 31 (state_from (terms_of d)) (state_from (terms_of e)) c

product_none : (c : ℕ) → product 0 c ≡ 0
product_none c = product_xor 0 0 c ∙ xor_self (product 0 c)

-- term i is the state i bits behind 1
term_ok : ℕ → Bool
term_ok i = eqb (terms_of (2 ^ i)) (state_from 1 i)

term_test : T (each term_ok 31 0)
unfolding term_ok state_from next_state entering
term_test = tt

-- of one term and one
product_ones : (i j : ℕ) → i < 31 → j < 31 → product (2 ^ i) (2 ^ j) ≡ state_from 1 (i + j)
unfolding term_ok
product_ones i j h l =
    sum_one 31 (state_from (terms_of (2 ^ i))) j l
    ∙ ap (λ (s : ℕ). state_from s j) (eqb→eq _ _ (range_rule term_ok 31 0 term_test i zero-le h)) ∙ sym (from_add 1 i j)

product_comm : (c d : ℕ) → c < 2 ^ 31 → d < 2 ^ 31 → product d c ≡ product c d
product_comm c d h l =
    linear_agree 31 (product d) (λ c. product c d) (sum_none 31 (state_from (terms_of d))) (product_none d) (sum_xor 31 (state_from (terms_of d)))
    (λ x y. product_xor x y d) (λ i b. one i b d l) c h
  where
    one : (i : ℕ) → i < 31 → (d : ℕ) → d < 2 ^ 31 → product d (2 ^ i) ≡ product (2 ^ i) d
    one i b =
        linear_agree 31 (λ d. product d (2 ^ i)) (product (2 ^ i)) (product_none (2 ^ i)) (sum_none 31 (state_from (terms_of (2 ^ i))))
        (λ x y. product_xor x y (2 ^ i)) (sum_xor 31 (state_from (terms_of (2 ^ i))))
        (λ j a. product_ones j i a b ∙ ap (state_from 1) (add_comm j i) ∙ sym (product_ones i j b a))

-- the mixed products cancel
product_square : (c : ℕ) → c < 2 ^ 31 → sum_at 31 (λ i. state_from 1 (i + i)) c ≡ product c c
product_square =
    sums_linear 31 (λ i. state_from 1 (i + i)) (λ c. product c c) (product_none 0)
    (λ x y h l.
    product_xor x y (bit_xor x y) ∙ ap₂ bit_xor (sum_xor 31 (state_from (terms_of x)) x y) (sum_xor 31 (state_from (terms_of y)) x y)
    ∙ ap (λ (z : ℕ). bit_xor (bit_xor (product x x) (product x y)) (bit_xor z (product y y))) (product_comm x y h l)
    ∙ xor_assoc (product x x) (product x y) (bit_xor (product x y) (product y y)) ∙ ap (bit_xor (product x x)) (xor_cancel (product x y) (product y y)))
    (λ i h. sym (product_ones i i h h))

-- ---- twice as far

pub doubled_law : (a : ℕ) {t x y z r : ℕ} → a < 2 ^ 31 → t ≡ terms_of a → x ≡ spread_of t → y ≡ reduced_of x → z ≡ reduced_of y → r ≡ terms_of z → Doubled a r
unfolding square_of
doubled_law a h et ex ey ez er =
    record {
      twice =
          λ n e.
          er ∙ ap terms_of (ez ∙ ap reduced_of (ey ∙ ap reduced_of (ex ∙ ap spread_of et)))
          ∙ sym (square_sum (terms_of a) (terms_lt a h)) ∙ product_square (terms_of a) (terms_lt a h)
          ∙ ap (λ (s : ℕ). sum_at 31 (state_from s) (terms_of a)) (terms_back a h)
          ∙ ap (λ (s : ℕ). sum_at 31 (state_from a) (terms_of s)) e ∙ far a h n
          ∙ ap (λ (s : ℕ). state_from s n) e ∙ sym (from_add 1 n n);
    }

-- whichever state it is, what is computed is one
pub doubled_lt : (t : ℕ) {x y z r : ℕ} → x ≡ spread_of t → y ≡ reduced_of x → z ≡ reduced_of y → r ≡ terms_of z → r < 2 ^ 31
unfolding spread_of parted_of reduced_of
doubled_lt t {x} {y} {z} ex ey ez er =
    rw er
    (terms_lt z
    (rw ez
    (xor_lt 31 (bit_xor (y % 2 ^ 31) (y / 2 ^ 31)) (y / 2 ^ 31 * 2 ^ 3 % 2 ^ 64)
    (xor_lt 31 (y % 2 ^ 31) (y / 2 ^ 31) (mod-lt y (lit< tt)) (omega (arith, small))) (omega (arith, small)))))
  where
    least : x < 2 ^ 63
    least = rw ex (lt_of_le_of_lt (and_le_r _ 0x5555555555555555) (lit< tt))

    small : y < 2 ^ 35
    small =
        rw ey
        (xor_lt 35 (bit_xor (x % 2 ^ 31) (x / 2 ^ 31)) (x / 2 ^ 31 * 2 ^ 3 % 2 ^ 64) (xor_lt 35 (x % 2 ^ 31) (x / 2 ^ 31) (omega arith) (omega (arith, least)))
        (omega (arith, least)))

-- and one more where it is odd
pub twice_far : (n : ℕ) {a r : ℕ} → a ≡ state_from 1 (n / 2) → Doubled a r → state_from r (n % 2) ≡ state_from 1 n
twice_far n e D =
    let whole : n / 2 + n / 2 + n % 2 ≡ n = omega arith in
    ap (λ (x : ℕ). state_from x (n % 2)) (D.twice (n / 2) e) ∙ sym (from_add 1 (n / 2 + n / 2) (n % 2)) ∙ ap (state_from 1) whole
