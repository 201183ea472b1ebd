-- The parity from a word without its parity bits; and the two numbers of a word with its parity.
-- Assumes nothing.
use mathlib.Core.Path.{◌≡◌, sym, ap, ap₂, ◌∙◌}
use Prim.Native.Nat.{ℕ, ◌+◌, ◌*◌, ◌/◌, ◌%◌, ◌^◌, ◌<◌}
use native.Mathlib.Nat.{mod-lt, div-add-mod'}
use native.Mathlib.Omega.{arith}
use lib.Arith.{digits_div, digits_mod}
use lib.Bits.{bit_xor, xor_lt, xor_self, xor_zero_r, xor_shifted}
use lib.Dec.{lit<}
use Rattle.bits.specs.definitions.Words.{word_of}
use Rattle.bits.proofs.Xor.{xor_assoc, xor_four}
use Rattle.bch.specs.definitions.Code.{remainder, parity_of, coded}
use Rattle.bch.specs.definitions.Word.{information_of}
use Rattle.bch.proofs.Remainder.{remainder_lt, remainder_xor, remainder_own, remainder_lead}

-- a word without its parity bits
information_only : (hi lo : ℕ) → lo < 2 ^ 64 → word_of hi (lo / 65536 * 65536) ≡ information_of (word_of hi lo) * 2 ^ 16
unfolding word_of
information_only hi lo h =
    let e : hi % 2 ^ 62 * 2 ^ 48 + lo / 2 ^ 16 ≡ information_of (hi % 2 ^ 62 * 2 ^ 64 + lo) = omega arith in
    omega arith

pub parity_law : (hi lo v r : ℕ) → lo < 2 ^ 64 → remainder 48 v ≡ remainder 126 (word_of hi (lo / 65536 * 65536)) → r ≡ remainder 48 v
    → r ≡ parity_of (information_of (word_of hi lo))
unfolding parity_of
parity_law hi lo v r h ev er = er ∙ ev ∙ ap (remainder 126) (information_only hi lo h)

-- parity bits alone are their own remainder
pub parity_own : (p : ℕ) → p < 65536 → remainder 126 p ≡ p
parity_own p h = remainder_lead 110 16 p h ∙ remainder_own p h

-- a word and its remainder make what is sent of its information, whatever parity bits stood there
coded_is : (w : ℕ) → bit_xor w (remainder 126 w) ≡ coded (information_of w)
unfolding coded parity_of
coded_is w =
    ap₂ bit_xor word (ap (remainder 126) word ∙ remainder_xor 126 m p ∙ ap (bit_xor q) (parity_own p small))
    ∙ xor_four m p q p ∙ ap (bit_xor (bit_xor m q)) (xor_self p) ∙ xor_zero_r (bit_xor m q) ∙ xor_shifted (w / 2 ^ 16) 16 q (remainder_lt 126 m)
  where
    m : ℕ
    m = w / 2 ^ 16 * 2 ^ 16

    p : ℕ
    p = w % 2 ^ 16

    q : ℕ
    q = remainder 126 m

    small : p < 65536
    small = mod-lt w (lit< tt)

    word : w ≡ bit_xor m p
    word = sym (xor_shifted (w / 2 ^ 16) 16 p small ∙ div-add-mod' w (2 ^ 16))

-- and its two numbers
pub coded_halves : (hi lo w r : ℕ) → lo < 2 ^ 64 → word_of hi lo ≡ w → r ≡ remainder 126 w
    → (hi % 2 ^ 62 ≡ coded (information_of w) / 2 ^ 64) × (bit_xor lo r ≡ coded (information_of w) % 2 ^ 64)
unfolding word_of
coded_halves hi lo w r h e q =
    let u : ℕ = hi % 2 ^ 62 in
    let small : r < 65536 = rw q (remainder_lt 126 w) in
    let l : bit_xor lo r < 2 ^ 64 = xor_lt 64 lo r h (omega arith) in
    let v : u * 2 ^ 64 + bit_xor lo r ≡ coded (information_of w) =
    (sym (xor_shifted u 64 (bit_xor lo r) l) ∙ sym (xor_assoc (u * 2 ^ 64) lo r) ∙ ap₂ bit_xor (xor_shifted u 64 lo h ∙ e) q ∙ coded_is w) in
    (sym (digits_div u l) ∙ ap (λ (x : ℕ). x / 2 ^ 64) v, sym (digits_mod u l) ∙ ap (λ (x : ℕ). x % 2 ^ 64) v)
