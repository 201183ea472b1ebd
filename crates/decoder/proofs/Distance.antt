-- Distances as weights: patterns are the words of weight at most two, code words have an even weight, and none but 0 weighs less than six.
-- Assumes nothing.
use mathlib.Core.Path.{◌≡◌, sym, ap, ap₂, ◌∙◌, subst}
use mathlib.Core.Logic.{◌≢◌}
use Prim.Native.Nat.{ℕ, zero, suc, ◌+◌, ◌-◌, ◌*◌, ◌/◌, ◌%◌, ◌^◌, ◌<◌, ◌≤◌}
use native.Mathlib.Nat.{mod-lt, add-zero, zero-add, zero-mul, suc-add}
use native.Mathlib.Omega.{arith}
use native.Mathlib.Decide.{dec_lt}
use lib.Dec.{lit<}
use lib.Pow.{pow-lt}
use lib.Bits.{bit_xor, xor_comm, xor_lt, xor_self}
use Rattle.bits.proofs.Xor.{xor_assoc, xor_cancel, xor_zero_eq}
use Rattle.bits.proofs.Weight.{weight, weight_zero, weight_power, weight_powers, weight_twice, weight_lead, weight_sum, weight_odd, weight_differs, powers_xor}
use Rattle.bits.proofs.Weight.{Light, Light.none, Light.single, Light.double, light, parts}
use Rattle.bch.specs.definitions.Code.{generator, multiple, CodeWord, remainder, distance}
use Rattle.decoder.specs.definitions.Mend.{flag_of}
use Rattle.decoder.specs.private.Answer.{Pattern, remainder_of}
use Rattle.decoder.specs.declared.Mend.{Mend}
use Rattle.decoder.specs.declared.Mend.TheVariants.{Clean, One, Two, Flagged}
use Rattle.bch.proofs.Remainder.{remainder_xor, code_remainder, code_lt}
use Rattle.decoder.proofs.Patterns.{mask, remainder_mask, patterns_apart}

pub distance_weight : (v w : ℕ) → distance v w ≡ weight 126 (bit_xor v w)
unfolding distance
distance_weight v w = weight_differs 126 v w

pub distance_comm : (v w : ℕ) → distance v w ≡ distance w v
distance_comm v w = distance_weight v w ∙ ap (weight 126) (xor_comm v w) ∙ sym (distance_weight w v)

-- by way of a third word
pub distance_through : (u v w : ℕ) → distance u w ≤ distance u v + distance v w
distance_through u v w =
    let e : bit_xor u w ≡ bit_xor (bit_xor u v) (bit_xor v w) = sym (xor_assoc u v (bit_xor v w) ∙ ap (bit_xor u) (xor_cancel v w)) in
    omega (arith, distance_weight u w, distance_weight u v, distance_weight v w, ap (weight 126) e, weight_sum 126 (bit_xor u v) (bit_xor v w))

-- ---- patterns are the words of weight at most two

-- a pattern whose bits are those of e
pub record PatternOf (e : ℕ) : Type 0 where
  pub pattern : Mend
  pub is : Pattern pattern
  pub bits : mask pattern ≡ e

pub light_pattern : (e : ℕ) → e < 2 ^ 126 → weight 126 e ≤ 2 → PatternOf e
unfolding mask Pattern
light_pattern e h w = go (light 126 e h w)
  where
    go : Light 126 e → PatternOf e
    go (none z) = record { pattern = Clean; is = tt; bits = sym z }
    go (single s) =
        let i : 125 - (125 - s.at) ≡ s.at = omega (arith, s.below) in
        record { pattern = One (125 - s.at); is = omega arith; bits = ap (λ (k : ℕ). 2 ^ k) i ∙ sym s.is }
    go (double d) =
        let i : 125 - (125 - d.hi) ≡ d.hi = omega (arith, d.below) in
        let j : 125 - (125 - d.lo) ≡ d.lo = omega (arith, d.below, d.order) in
        record {
          pattern = Two (125 - d.hi) (125 - d.lo);
          is = (omega (arith, d.below, d.order), omega arith);
          bits =
              ap₂ (λ (k l : ℕ). bit_xor (2 ^ k) (2 ^ l)) i j ∙ xor_comm (2 ^ d.hi) (2 ^ d.lo) ∙ powers_xor d.order
              ∙ sym d.is;
        }

pub mask_lt : (m : Mend) → Pattern m → mask m < 2 ^ 126
unfolding mask Pattern
mask_lt Clean P = lit< tt
mask_lt (One i) h = let d : 125 - i < 126 = omega arith in pow-lt d
mask_lt (Two i j) (l, h) =
    let d : 125 - i < 126 = omega arith in
    let e : 125 - j < 126 = omega arith in
    xor_lt 126 (2 ^ (125 - i)) (2 ^ (125 - j)) (pow-lt d) (pow-lt e)
mask_lt Flagged P = absurd P

-- the flag counts them
pub mask_weight : (m : Mend) → Pattern m → weight 126 (mask m) ≡ flag_of m
unfolding mask Pattern flag_of
mask_weight Clean P = weight_zero 126
mask_weight (One i) h = weight_power 126 (125 - i) (omega arith)
mask_weight (Two i j) (l, h) =
    ap (weight 126) (xor_comm (2 ^ (125 - i)) (2 ^ (125 - j))) ∙ weight_powers 126 (125 - j) (125 - i) (omega arith) (omega arith)
mask_weight Flagged P = absurd P

pub flag_pattern : (m : Mend) → Pattern m → flag_of m ≤ 2
unfolding Pattern flag_of
flag_pattern Clean P = omega arith
flag_pattern (One i) P = omega arith
flag_pattern (Two i j) P = omega arith
flag_pattern Flagged P = absurd P

-- ---- code words

-- the generator has ten terms, so its multiples have an even number
generator_even : (k b : ℕ) → b < 2 → weight (17 + k) (b * generator) % 2 ≡ 0
unfolding weight
generator_even k zero h = rw (zero-mul, weight_zero (17 + k))
generator_even k (suc zero) h = rw (weight_lead k 17 generator (lit< tt))
generator_even k (suc (suc b)) h = absurd (omega arith)

multiple_even : (k q : ℕ) → weight (k + 16) (multiple k q) % 2 ≡ 0
unfolding multiple
multiple_even zero q = ap (λ (x : ℕ). x % 2) (weight_zero 16)
multiple_even (suc k) q =
    let x : ℕ = multiple k (q / 2) in
    let n : 17 + k ≡ suc k + 16 = omega arith in
    let e : weight (suc k + 16) (x * 2) ≡ weight (k + 16) x =
    ap₂ weight (suc-add k 16) (sym (add-zero (x * 2))) ∙ weight_twice (k + 16) x 0 (lit< tt) ∙ zero-add (weight (k + 16) x) in
    let g : weight (suc k + 16) (q % 2 * generator) % 2 ≡ 0 =
    subst (λ (m : ℕ). weight m (q % 2 * generator) % 2 ≡ 0) n (generator_even k (q % 2) (mod-lt q (lit< tt))) in
    omega (arith, weight_odd (suc k + 16) (x * 2) (q % 2 * generator), e, g, multiple_even k (q / 2))

pub code_even : {c : ℕ} → CodeWord c → weight 126 c % 2 ≡ 0
code_even w = subst (λ (x : ℕ). weight 126 x % 2 ≡ 0) (sym w.product) (multiple_even 110 w.quotient)

-- two patterns with one remainder are one, so a code word of weight at most four is 0
code_four : (n : ℕ) → n < 2 ^ 126 → remainder 126 n ≡ 0 → weight 126 n ≤ 4 → n ≡ 0
code_four n h e w =
    let p = parts 126 n 2 2 h w in
    let a = light_pattern p.one p.one_lt p.one_light in
    let b = light_pattern p.other p.other_lt p.other_light in
    let r : remainder 126 p.one ≡ remainder 126 p.other =
    xor_zero_eq (remainder 126 p.one) (remainder 126 p.other)
    (sym (remainder_xor 126 p.one p.other) ∙ ap (remainder 126) (sym p.sum) ∙ e) in
    let c : remainder_of a.pattern ≡ remainder_of b.pattern =
    remainder_mask a.pattern a.is ∙ ap (remainder 126) a.bits ∙ r ∙ sym (ap (remainder 126) b.bits) ∙ sym (remainder_mask b.pattern b.is) in
    let same : p.one ≡ p.other = sym a.bits ∙ ap mask (patterns_apart a.pattern b.pattern a.is b.is c) ∙ b.bits in
    p.sum ∙ ap (bit_xor p.one) (sym same) ∙ xor_self p.one

pub code_apart : (c d : ℕ) → CodeWord c → CodeWord d → c ≢ d → 6 ≤ distance c d
code_apart c d C D ne = go (dec_lt (weight 126 n) 5)
  where
    n : ℕ
    n = bit_xor c d

    none : remainder 126 n ≡ 0
    none = remainder_xor 126 c d ∙ ap₂ bit_xor (code_remainder C) (code_remainder D)

    even : weight 126 n % 2 ≡ 0
    even = omega (arith, weight_odd 126 c d, code_even C, code_even D)

    go : Dec (weight 126 n < 5) → 6 ≤ distance c d
    go (yes l) = absurd (ne (xor_zero_eq c d (code_four n (xor_lt 126 c d (code_lt C) (code_lt D)) none (omega arith))))
    go (no l) = omega (arith, distance_weight c d, even)
