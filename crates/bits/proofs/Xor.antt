-- Exclusive or on numbers: it goes bit by bit, and is a commutative group. What the library lacks of it; and a bound of or.
-- Assumes nothing.
use mathlib.Core.Path.{◌≡◌, refl, sym, ap, ap₂, ◌∙◌}
use mathlib.Core.Logic.{◌⊎◌, inl, inr}
use Prim.Native.Nat.{ℕ, zero, suc, ◌+◌, ◌*◌, ◌/◌, ◌%◌, ◌^◌, ◌<◌, ◌≤◌, min}
use native.Mathlib.Nat.{mod-lt, zero-lt-suc, add-zero, min-zero, min-le_left, lt_of_le_of_lt}
use native.Mathlib.Omega.{arith}
use lib.Arith.{bin_ind, digits_div, digits_mod}
use lib.Pow.{pow_pos}
use lib.Bits.{bit_and, bit_or, bit_xor, differ, and_step, xor_step, xor_comm, xor_self, xor_zero_r, xor_block, xor_mod, or_add_and, and_shr, and_le_l, and_le_r}

two_pos : zero < 2
two_pos = zero-lt-suc 1

pub bit_cases : (x : ℕ) → x < 2 → (x ≡ 0) ⊎ (x ≡ 1)
bit_cases zero h = inl refl
bit_cases (suc zero) h = inr refl
bit_cases (suc (suc x)) h = absurd (omega arith)

pub differ_lt : (x y : ℕ) → x < 2 → y < 2 → differ x y < 2
differ_lt zero y hx hy = hy
differ_lt (suc zero) zero hx hy = hx
differ_lt (suc zero) (suc zero) hx hy = two_pos
differ_lt (suc zero) (suc (suc y)) hx hy = omega arith
differ_lt (suc (suc x)) y hx hy = omega arith

differ_assoc : (x y z : ℕ) → x < 2 → y < 2 → z < 2 → differ (differ x y) z ≡ differ x (differ y z)
differ_assoc zero y z hx hy hz = refl
differ_assoc (suc zero) zero z hx hy hz = refl
differ_assoc (suc zero) (suc zero) zero hx hy hz = refl
differ_assoc (suc zero) (suc zero) (suc zero) hx hy hz = refl
differ_assoc (suc zero) (suc zero) (suc (suc z)) hx hy hz = omega arith
differ_assoc (suc zero) (suc (suc y)) z hx hy hz = omega arith
differ_assoc (suc (suc x)) y z hx hy hz = omega arith

odd_lt : (a b : ℕ) → differ (a % 2) (b % 2) < 2
odd_lt a b = differ_lt (a % 2) (b % 2) (mod-lt a two_pos) (mod-lt b two_pos)

-- its upper bits, and its last
pub xor_half : (a b : ℕ) → bit_xor a b / 2 ≡ bit_xor (a / 2) (b / 2)
xor_half a b = ap (λ (x : ℕ). x / 2) (xor_step a b) ∙ digits_div (bit_xor (a / 2) (b / 2)) (odd_lt a b)

pub xor_odd : (a b : ℕ) → bit_xor a b % 2 ≡ differ (a % 2) (b % 2)
xor_odd a b = ap (λ (x : ℕ). x % 2) (xor_step a b) ∙ digits_mod (bit_xor (a / 2) (b / 2)) (odd_lt a b)

pub xor_assoc : (a b c : ℕ) → bit_xor (bit_xor a b) c ≡ bit_xor a (bit_xor b c)
xor_assoc a =
    bin_ind (λ (n : ℕ). (b c : ℕ) → bit_xor (bit_xor n b) c ≡ bit_xor n (bit_xor b c)) (λ b c. refl)
    (λ n ih b c.
    xor_step (bit_xor n b) c
    ∙ ap₂ (λ (x y : ℕ). x * 2 + y)
    (ap (λ (x : ℕ). bit_xor x (c / 2)) (xor_half n b) ∙ ih (b / 2) (c / 2) ∙ ap (bit_xor (n / 2)) (sym (xor_half b c)))
    (ap (λ (x : ℕ). differ x (c % 2)) (xor_odd n b)
    ∙ differ_assoc (n % 2) (b % 2) (c % 2) (mod-lt n two_pos) (mod-lt b two_pos) (mod-lt c two_pos)
    ∙ ap (differ (n % 2)) (sym (xor_odd b c)))
    ∙ sym (xor_step n (bit_xor b c))) a

pub xor_left_comm : (a b c : ℕ) → bit_xor a (bit_xor b c) ≡ bit_xor b (bit_xor a c)
xor_left_comm a b c = sym (xor_assoc a b c) ∙ ap (λ (x : ℕ). bit_xor x c) (xor_comm a b) ∙ xor_assoc b a c

pub xor_swap : (a b c : ℕ) → bit_xor (bit_xor a b) c ≡ bit_xor (bit_xor a c) b
xor_swap a b c = xor_assoc a b c ∙ ap (bit_xor a) (xor_comm b c) ∙ sym (xor_assoc a c b)

pub xor_four : (a b c d : ℕ) → bit_xor (bit_xor a b) (bit_xor c d) ≡ bit_xor (bit_xor a c) (bit_xor b d)
xor_four a b c d = xor_assoc a b (bit_xor c d) ∙ ap (bit_xor a) (xor_left_comm b c d) ∙ sym (xor_assoc a c (bit_xor b d))

-- twice is nothing, from the left and from the right
pub xor_cancel : (a b : ℕ) → bit_xor a (bit_xor a b) ≡ b
xor_cancel a b = sym (xor_assoc a a b) ∙ ap (λ (x : ℕ). bit_xor x b) (xor_self a)

pub xor_cancel_r : (a b : ℕ) → bit_xor (bit_xor a b) b ≡ a
xor_cancel_r a b = xor_assoc a b b ∙ ap (bit_xor a) (xor_self b) ∙ xor_zero_r a

-- a sum that is 0 has equal parts
pub xor_zero_eq : (a b : ℕ) → bit_xor a b ≡ 0 → a ≡ b
xor_zero_eq a b e = sym (xor_cancel_r a b) ∙ ap (λ (x : ℕ). bit_xor x b) e

-- it passes under one more bit
pub xor_double : (a b x y : ℕ) → x < 2 → y < 2 → bit_xor (a * 2 + x) (b * 2 + y) ≡ bit_xor a b * 2 + bit_xor x y
xor_double a b x y hx hy = xor_block 1 a b x y hx hy

-- it passes under a shift in a word of w bits, and under a mask
pub xor_shl : (a b k w : ℕ) → bit_xor a b * 2 ^ k % 2 ^ w ≡ bit_xor (a * 2 ^ k % 2 ^ w) (b * 2 ^ k % 2 ^ w)
xor_shl a b k w =
    ap (λ (x : ℕ). x % 2 ^ w) (sym (simp add-zero at (xor_block k a b 0 0 (pow_pos k) (pow_pos k)))) ∙ xor_mod (a * 2 ^ k) (b * 2 ^ k) w

and_odd : (a b : ℕ) → bit_and a b % 2 ≡ min (a % 2) (b % 2)
and_odd a b =
    ap (λ (x : ℕ). x % 2) (and_step a b) ∙ digits_mod (bit_and (a / 2) (b / 2)) (lt_of_le_of_lt (min-le_left (a % 2) (b % 2)) (mod-lt a two_pos))

min_differ : (x y m : ℕ) → x < 2 → y < 2 → m < 2 → min (differ x y) m ≡ differ (min x m) (min y m)
min_differ x y zero hx hy hm = min-zero (differ x y) ∙ sym (ap₂ differ (min-zero x) (min-zero y))
min_differ zero y (suc zero) hx hy hm = refl
min_differ (suc zero) zero (suc zero) hx hy hm = refl
min_differ (suc zero) (suc zero) (suc zero) hx hy hm = refl
min_differ (suc zero) (suc (suc y)) (suc zero) hx hy hm = omega arith
min_differ (suc (suc x)) y (suc zero) hx hy hm = omega arith
min_differ x y (suc (suc m)) hx hy hm = omega arith

pub and_xor : (a b m : ℕ) → bit_and (bit_xor a b) m ≡ bit_xor (bit_and a m) (bit_and b m)
and_xor a =
    bin_ind (λ (n : ℕ). (b m : ℕ) → bit_and (bit_xor n b) m ≡ bit_xor (bit_and n m) (bit_and b m)) (λ b m. refl)
    (λ n ih b m.
    and_step (bit_xor n b) m
    ∙ ap₂ (λ (x y : ℕ). x * 2 + y)
    (ap (λ (x : ℕ). bit_and x (m / 2)) (xor_half n b) ∙ ih (b / 2) (m / 2) ∙ sym (ap₂ bit_xor (and_shr n m 1) (and_shr b m 1)))
    (ap (λ (x : ℕ). min x (m % 2)) (xor_odd n b)
    ∙ min_differ (n % 2) (b % 2) (m % 2) (mod-lt n two_pos) (mod-lt b two_pos) (mod-lt m two_pos)
    ∙ sym (ap₂ differ (and_odd n m) (and_odd b m)))
    ∙ sym (xor_step (bit_and n m) (bit_and b m))) a

-- two numbers are at most what has every bit of both
pub or_within : (a b : ℕ) → (a ≤ bit_or a b) × (b ≤ bit_or a b)
or_within a b =
    let e : bit_or a b + bit_and a b ≡ a + b = or_add_and a b in
    let l : bit_and a b ≤ a = and_le_l a b in
    let r : bit_and a b ≤ b = and_le_r a b in
    (omega arith, omega arith)
