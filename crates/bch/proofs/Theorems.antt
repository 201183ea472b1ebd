-- What specs/statements/Code states of a word sent.
-- Assumes nothing.
use mathlib.Core.Path.{◌≡◌, sym, ap, ◌∙◌}
use Prim.Native.Nat.{ℕ, ◌+◌, ◌*◌, ◌%◌, ◌^◌, ◌<◌}
use native.Mathlib.Nat.{mod-lt, zero-add, div-add-mod'}
use lib.Arith.{digits_div, digits_lt}
use lib.Dec.{lit<}
use lib.Bits.{bit_xor, xor_block, xor_lt, xor_self, xor_shifted}
use Rattle.bits.proofs.Xor.{xor_zero_eq}
use Rattle.bch.specs.definitions.Code.{remainder, parity_of, coded}
use Rattle.bch.specs.statements.Code.{SentIsCode}
use Rattle.bch.proofs.Remainder.{remainder_lt, remainder_xor, remainder_code, remainder_code_xor}
use Rattle.bch.proofs.Sent.{parity_own}

pub sent_is_code : SentIsCode
unfolding coded parity_of
sent_is_code m h = (
  remainder_code fits none,
  fits,
  digits_div m small,
  λ c C e.
      let r : ℕ = bit_xor (c % 2 ^ 16) p in
      let split : c ≡ m * 2 ^ 16 + c % 2 ^ 16 = sym (div-add-mod' c (2 ^ 16)) ∙ ap (λ (x : ℕ). x * 2 ^ 16 + c % 2 ^ 16) e in
      let low : bit_xor c (m * 2 ^ 16 + p) ≡ r =
      ap (λ (x : ℕ). bit_xor x (m * 2 ^ 16 + p)) split ∙ xor_block 16 m m (c % 2 ^ 16) p (mod-lt c (lit< tt)) small
      ∙ ap (λ (x : ℕ). x * 2 ^ 16 + r) (xor_self m) ∙ zero-add r in
      let zero : r ≡ 0 =
      sym (parity_own r (xor_lt 16 (c % 2 ^ 16) p (mod-lt c (lit< tt)) small)) ∙ ap (remainder 126) (sym low)
      ∙ remainder_code_xor (m * 2 ^ 16 + p) C ∙ none in
      xor_zero_eq c (m * 2 ^ 16 + p) (low ∙ zero),
)
  where
    p : ℕ
    p = remainder 126 (m * 2 ^ 16)

    small : p < 65536
    small = remainder_lt 126 (m * 2 ^ 16)

    fits : m * 2 ^ 16 + p < 2 ^ 126
    fits = digits_lt h small

    none : remainder 126 (m * 2 ^ 16 + p) ≡ 0
    none = ap (remainder 126) (sym (xor_shifted m 16 p small)) ∙ remainder_xor 126 (m * 2 ^ 16) p ∙ ap (bit_xor p) (parity_own p small) ∙ xor_self p
