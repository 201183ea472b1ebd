-- The register's states: they go on from one another, they are linear, and which bits stand in them.
-- Assumes nothing.
use mathlib.Core.Path.{◌≡◌, refl, sym, ap, ap₂, ◌∙◌}
use Prim.Native.Nat.{ℕ, zero, suc, ◌+◌, ◌*◌, ◌-◌, ◌/◌, ◌%◌, ◌^◌, ◌≤◌, ◌<◌}
use native.Mathlib.Nat.{add-zero, add-suc, pow-suc, mod-lt, mod-one, mod-eq_of_lt, mul-mod_left, mul_assoc, mul-add-div_right, div-one}
use native.Mathlib.Omega.{arith}
use lib.Arith.{digits_div, digits_mod, mod-mul}
use lib.Dec.{lit<}
use lib.Pow.{pow-add, pow_pos, shr-shr, field, mod-mod-pow, mod-pow-add, split, shl-shr}
use lib.Bits.{bit_xor, differ, xor_shr, xor_mod}
use Rattle.bits.specs.definitions.Bits.{value, number, bit_of}
use Rattle.bits.proofs.Xor.{xor_odd, xor_four, xor_double}
use Rattle.bits.proofs.Value.{bit_number, bit_ext, number_inverted, differ_mod}
use Rattle.traffic.specs.definitions.Register.{entering, next_state, state_from, sent_bit, bit_from}

pub entering_lt : (s : ℕ) → entering s < 2
unfolding entering
entering_lt s = omega arith

pub sent_lt : (s : ℕ) → sent_bit s < 2
unfolding sent_bit
sent_lt s = omega arith

next_lt : (s : ℕ) → next_state s < 2 ^ 31
unfolding next_state
next_lt s = omega (arith, entering_lt s)

pub from_lt : (s n : ℕ) → s < 2 ^ 31 → state_from s n < 2 ^ 31
unfolding state_from
from_lt s zero h = h
from_lt s (suc n) h = next_lt (state_from s n)

-- states go on from one another
pub from_add : (s n m : ℕ) → state_from s (n + m) ≡ state_from (state_from s n) m
unfolding state_from
from_add s n zero = ap (state_from s) (add-zero n)
from_add s n (suc m) = ap (state_from s) (add-suc n m) ∙ ap next_state (from_add s n m)

-- ---- what stands above 31 bits is not looked at

entering_mod : (s : ℕ) → entering (s % 2 ^ 31) ≡ entering s
unfolding entering
entering_mod s = rw (field s 4 27, field s 1 30) (sums (s / 2 ^ 27) (s / 2 ^ 30))
  where
    sums : (x y : ℕ) → (x % 2 ^ 4 + y % 2 ^ 1) % 2 ≡ (x + y) % 2
    sums x y = omega arith

next_mod : (s : ℕ) → next_state (s % 2 ^ 31) ≡ next_state s
unfolding next_state
next_mod s = let e : s % 2 ^ 31 % 2 ^ 30 ≡ s % 2 ^ 30 = omega arith in rw (e, entering_mod s)

pub from_mod : (s n : ℕ) → state_from (s % 2 ^ 31) (suc n) ≡ state_from s (suc n)
unfolding state_from
from_mod s zero = next_mod s
from_mod s (suc n) = ap next_state (from_mod s n)

pub bit_mod : (s n : ℕ) → bit_from (s % 2 ^ 31) n ≡ bit_from s n
unfolding sent_bit state_from
bit_mod s zero = ap (λ (b : ℕ). 1 - b) (entering_mod s)
bit_mod s (suc n) = ap sent_bit (from_mod s n)

-- ---- states are linear

as_xor : (s : ℕ) → entering s ≡ bit_xor (s / 2 ^ 27) (s / 2 ^ 30) % 2
unfolding entering
as_xor s =
    let e : (s / 2 ^ 27 + s / 2 ^ 30) % 2 ≡ (s / 2 ^ 27 % 2 + s / 2 ^ 30 % 2) % 2 = omega arith in
    e ∙ sym (differ_mod (s / 2 ^ 27 % 2) (s / 2 ^ 30 % 2) (omega arith) (omega arith)) ∙ sym (xor_odd (s / 2 ^ 27) (s / 2 ^ 30))

pub entering_xor : (a b : ℕ) → entering (bit_xor a b) ≡ bit_xor (entering a) (entering b)
entering_xor a b =
    as_xor (bit_xor a b) ∙ ap (λ (x : ℕ). x % 2) (ap₂ bit_xor (xor_shr a b 27) (xor_shr a b 30) ∙ xor_four (a / 2 ^ 27) (b / 2 ^ 27) (a / 2 ^ 30) (b / 2 ^ 30))
    ∙ xor_mod (bit_xor (a / 2 ^ 27) (a / 2 ^ 30)) (bit_xor (b / 2 ^ 27) (b / 2 ^ 30)) 1 ∙ sym (ap₂ bit_xor (as_xor a) (as_xor b))

pub next_xor : (a b : ℕ) → next_state (bit_xor a b) ≡ bit_xor (next_state a) (next_state b)
unfolding next_state
next_xor a b =
    ap₂ (λ (x y : ℕ). x * 2 + y) (xor_mod a b 30) (entering_xor a b)
    ∙ sym (xor_double (a % 2 ^ 30) (b % 2 ^ 30) (entering a) (entering b) (entering_lt a) (entering_lt b))

pub from_xor : (a b n : ℕ) → state_from (bit_xor a b) n ≡ bit_xor (state_from a n) (state_from b n)
unfolding state_from
from_xor a b zero = refl
from_xor a b (suc n) = ap next_state (from_xor a b n) ∙ next_xor (state_from a n) (state_from b n)

-- ---- which bits stand in a state

-- the n bits that entered last
from_low : (s n : ℕ) → n ≤ 31 → state_from s n % 2 ^ n ≡ number n (λ i. entering (state_from s i))
unfolding state_from value next_state
from_low s zero h = mod-one (state_from s zero)
from_low s (suc n) h =
    let t = state_from s n in
    let k : 30 ≡ 30 - n + n = omega arith in
    ap (λ (m : ℕ). (t % 2 ^ 30 * 2 + entering t) % m) (pow-suc 2 n) ∙ mod-mul (t % 2 ^ 30 * 2 + entering t) (pow_pos n) (lit< tt)
    ∙ ap₂ (λ (x y : ℕ). x % 2 ^ n * 2 + y) (digits_div (t % 2 ^ 30) (entering_lt t)) (digits_mod (t % 2 ^ 30) (entering_lt t))
    ∙ ap (λ (x : ℕ). x * 2 + entering t) (ap (λ (m : ℕ). t % 2 ^ m % 2 ^ n) k ∙ mod-mod-pow t (30 - n) n ∙ from_low s n (omega arith))

-- and above them those of the state before
from_high : (s n : ℕ) → s < 2 ^ 31 → n ≤ 31 → state_from s n / 2 ^ n ≡ s % 2 ^ (31 - n)
unfolding state_from next_state
from_high s zero h l = div-one s ∙ sym (mod-eq_of_lt h)
from_high s (suc n) h l =
    let t = state_from s n in
    let k : 30 ≡ 30 - n + n = omega arith in
    let j : 31 - n ≡ 1 + (30 - n) = omega arith in
    let i : 30 - n ≡ 31 - suc n = omega arith in
    ap (λ (m : ℕ). (t % 2 ^ 30 * 2 + entering t) / 2 ^ m) (sym (suc_one n)) ∙ sym (shr-shr (t % 2 ^ 30 * 2 + entering t) 1 n)
    ∙ ap (λ (x : ℕ). x / 2 ^ n) (digits_div (t % 2 ^ 30) (entering_lt t))
    ∙ ap (λ (m : ℕ). t % 2 ^ m / 2 ^ n) k ∙ field t (30 - n) n
    ∙ ap (λ (x : ℕ). x % 2 ^ (30 - n)) (from_high s n h (omega arith) ∙ ap (λ (m : ℕ). s % 2 ^ m) j) ∙ mod-mod-pow s 1 (30 - n) ∙ ap (λ (m : ℕ). s % 2 ^ m) i
  where
    suc_one : (n : ℕ) → 1 + n ≡ suc n
    suc_one n = omega arith

-- n bits at once, as far as they do not depend on one another: the bits that enter are sums of bits that are there
entering_at : (s i : ℕ) → s < 2 ^ 31 → i < 28 → entering (state_from s i) ≡ bit_xor (s / 2 ^ (27 - i)) (s / 2 ^ (30 - i)) % 2
entering_at s i h l =
    let a : 27 ≡ i + (27 - i) = omega arith in
    let b : 30 ≡ i + (30 - i) = omega arith in
    as_xor t ∙ ap (λ (x : ℕ). x % 2) (ap₂ (λ (j k : ℕ). bit_xor (t / 2 ^ j) (t / 2 ^ k)) a b)
    ∙ xor_odd (t / 2 ^ (i + (27 - i))) (t / 2 ^ (i + (30 - i))) ∙ ap₂ differ (older (27 - i) (omega arith)) (older (30 - i) (omega arith))
    ∙ sym (xor_odd (s / 2 ^ (27 - i)) (s / 2 ^ (30 - i)))
  where
    t : ℕ
    t = state_from s i

    older : (j : ℕ) → i + j < 31 → t / 2 ^ (i + j) % 2 ≡ s / 2 ^ j % 2
    older j b =
        let k : 31 - i ≡ 30 - i - j + 1 + j = omega arith in
        ap (λ (x : ℕ). x % 2) (sym (shr-shr t i j) ∙ ap (λ (x : ℕ). x / 2 ^ j) (from_high s i h (omega arith) ∙ ap (λ (m : ℕ). s % 2 ^ m) k)
        ∙ field s (30 - i - j + 1) j)
        ∙ mod-mod-pow (s / 2 ^ j) (30 - i - j) 1

pub ahead_law : (s n : ℕ) → s < 2 ^ 31 → n ≤ 28
    → s * 2 ^ n % 2 ^ 31 + bit_xor (s / 2 ^ (28 - n)) (s / 2 ^ (31 - n)) % 2 ^ n ≡ state_from s n
unfolding bit_of
ahead_law s n h l =
    ap₂ ◌+◌ upper lower ∙ split (state_from s n) n
  where
    x : ℕ
    x = bit_xor (s / 2 ^ (28 - n)) (s / 2 ^ (31 - n))

    upper : s * 2 ^ n % 2 ^ 31 ≡ state_from s n / 2 ^ n * 2 ^ n
    upper =
        let k : 31 ≡ 31 - n + n = omega arith in
        ap (λ (m : ℕ). s * 2 ^ n % 2 ^ m) k ∙ mod-pow-add (s * 2 ^ n) (31 - n) n
        ∙ ap₂ (λ (y z : ℕ). y % 2 ^ (31 - n) * 2 ^ n + z) (shl-shr s n) (mul-mod_left s (2 ^ n)) ∙ add-zero (s % 2 ^ (31 - n) * 2 ^ n)
        ∙ ap (λ (y : ℕ). y * 2 ^ n) (sym (from_high s n h (omega arith)))

    bit : (i : ℕ) → i < n → bit_of n (x % 2 ^ n) i ≡ bit_of n (state_from s n % 2 ^ n) i
    bit i b =
        let k : n ≡ i + 1 + (n - 1 - i) = omega arith in
        let e : 28 - n + (n - 1 - i) ≡ 27 - i = omega arith in
        let f : 31 - n + (n - 1 - i) ≡ 30 - i = omega arith in
        ap (λ (y : ℕ). y % 2) (ap (λ (m : ℕ). x % 2 ^ m / 2 ^ (n - 1 - i)) k ∙ field x (i + 1) (n - 1 - i)) ∙ mod-mod-pow (x / 2 ^ (n - 1 - i)) i 1
        ∙ ap (λ (y : ℕ). y % 2) (xor_shr (s / 2 ^ (28 - n)) (s / 2 ^ (31 - n)) (n - 1 - i)
        ∙ ap₂ bit_xor (shr-shr s (28 - n) (n - 1 - i) ∙ ap (λ (m : ℕ). s / 2 ^ m) e) (shr-shr s (31 - n) (n - 1 - i) ∙ ap (λ (m : ℕ). s / 2 ^ m) f))
        ∙ sym (entering_at s i h (omega arith))
        ∙ sym (bit_number n (λ i. entering (state_from s i)) (λ i _. entering_lt (state_from s i)) i b)
        ∙ ap (λ (y : ℕ). bit_of n y i) (sym (from_low s n (omega arith)))

    lower : x % 2 ^ n ≡ state_from s n % 2 ^ n
    lower = bit_ext n (x % 2 ^ n) (state_from s n % 2 ^ n) (mod-lt x (pow_pos n)) (mod-lt (state_from s n) (pow_pos n)) bit

-- the first 31 states behind a state stand in one number, with that state on top
pub window : (s i : ℕ) → s < 2 ^ 31 → i < 31 → (s * 2 ^ 31 + state_from s 31) / 2 ^ (31 - i) % 2 ^ 31 ≡ state_from s i
window s i h l =
    ap (λ (x : ℕ). x % 2 ^ 31) whole
    ∙ ap (λ (m : ℕ). (s * 2 ^ i + t % 2 ^ i) % 2 ^ m) k ∙ mod-pow-add (s * 2 ^ i + t % 2 ^ i) (31 - i) i
    ∙ ap₂ (λ (y z : ℕ). y % 2 ^ (31 - i) * 2 ^ i + z) (digits_div s (mod-lt t (pow_pos i))) (digits_mod s (mod-lt t (pow_pos i)))
    ∙ ap (λ (y : ℕ). y * 2 ^ i + t % 2 ^ i) (sym (from_high s i h (omega arith))) ∙ split t i
  where
    t : ℕ
    t = state_from s i

    k : 31 ≡ 31 - i + i
    k = omega arith

    later : state_from s 31 / 2 ^ (31 - i) ≡ t % 2 ^ i
    later =
        let a : 31 ≡ i + (31 - i) = omega arith in
        let b : 31 - (31 - i) ≡ i = omega arith in
        ap (λ (m : ℕ). state_from s m / 2 ^ (31 - i)) a ∙ ap (λ (y : ℕ). y / 2 ^ (31 - i)) (from_add s i (31 - i))
        ∙ from_high t (31 - i) (from_lt s i h) (omega arith) ∙ ap (λ (m : ℕ). t % 2 ^ m) b

    whole : (s * 2 ^ 31 + state_from s 31) / 2 ^ (31 - i) ≡ s * 2 ^ i + t % 2 ^ i
    whole =
        let a : 31 ≡ i + (31 - i) = omega arith in
        ap (λ (m : ℕ). (s * m + state_from s 31) / 2 ^ (31 - i)) (ap (λ (m : ℕ). 2 ^ m) a ∙ pow-add 2 i (31 - i))
        ∙ ap (λ (y : ℕ). (y + state_from s 31) / 2 ^ (31 - i)) (sym (mul_assoc s (2 ^ i) (2 ^ (31 - i))))
        ∙ mul-add-div_right (pow_pos (31 - i)) (s * 2 ^ i) (state_from s 31) ∙ ap (λ (y : ℕ). s * 2 ^ i + y) later

-- ---- bits sent

-- n bits sent are those that entered, inverted
pub sent_number : (s n : ℕ) → n ≤ 31 → number n (bit_from s) ≡ 2 ^ n - 1 - state_from s n % 2 ^ n
unfolding sent_bit
sent_number s n h =
    number_inverted n (λ i. entering (state_from s i)) (λ i _. entering_lt (state_from s i)) ∙ ap (λ (x : ℕ). 2 ^ n - 1 - x) (sym (from_low s n h))

-- bits go on too
pub bit_add : (s n m : ℕ) → bit_from s (n + m) ≡ bit_from (state_from s n) m
bit_add s n m = ap sent_bit (from_add s n m)
