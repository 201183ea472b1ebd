-- What `fold_digit` works out of a remainder and a digit, as the code has it: it is made by shifts and sums, so it is linear.
-- Assumes nothing.
use mathlib.Core.Path.{◌≡◌, refl, ap, ap₂, ◌∙◌}
use Prim.Native.Nat.{ℕ, ◌*◌, ◌/◌, ◌%◌, ◌^◌}
use lib.Bits.{bit_xor, xor_shr}
use Rattle.bits.proofs.Xor.{xor_four, xor_shl}

-- a number made of a remainder and a digit by shifts and sums, so that it keeps sums
pub record Linear : Type 0 where
  pub of : ℕ → ℕ → ℕ
  pub keeps : (r s d e : ℕ) → of (bit_xor r s) (bit_xor d e) ≡ bit_xor (of r d) (of s e)

-- the two themselves, a sum, and shifts to the right and, within 16 bits, to the left
abbrev the_remainder : Linear
the_remainder = record { of = λ r d. r; keeps = λ r s d e. refl }

abbrev the_digit : Linear
the_digit = record { of = λ r d. d; keeps = λ r s d e. refl }

abbrev plus : Linear → Linear → Linear
plus F G =
    record {
      of = λ r d. bit_xor (F.of r d) (G.of r d);
      keeps = λ r s d e. ap₂ bit_xor (F.keeps r s d e) (G.keeps r s d e) ∙ xor_four (F.of r d) (F.of s e) (G.of r d) (G.of s e);
    }

abbrev right : Linear → ℕ → Linear
right F k =
    record {
      of = λ r d. F.of r d / 2 ^ k;
      keeps = λ r s d e. ap (λ (x : ℕ). x / 2 ^ k) (F.keeps r s d e) ∙ xor_shr (F.of r d) (F.of s e) k;
    }

abbrev left : Linear → ℕ → Linear
left F k =
    record {
      of = λ r d. F.of r d * 2 ^ k % 2 ^ 16;
      keeps = λ r s d e. ap (λ (x : ℕ). x * 2 ^ k % 2 ^ 16) (F.keeps r s d e) ∙ xor_shl (F.of r d) (F.of s e) k 16;
    }

-- as the code has it: the quotient, and the generator's lower terms as often as it says
abbrev quotient : Linear
quotient =
    let r = the_remainder in
    let a = plus r (right r 2) in
    let b = plus r (right r 1) in
    plus (plus (plus (plus a (right a 10)) (right b 4)) (right b 7)) (right r 13)

abbrev pub digit_fold : Linear
digit_fold =
    let q = quotient in
    let t = plus q (left q 2) in
    plus (plus (plus (plus (plus (plus the_digit q) (left t 1)) (left t 5)) (left t 9)) (left q 10)) (left q 14)
