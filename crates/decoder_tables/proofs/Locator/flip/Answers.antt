-- `decoder_tables::Locator::flip` meets its contract: a bit at a place is flipped in a word's two numbers, and then one at another. Assumes nothing.
use Rattle.std.proofs.Common.{◌≡◌, ℕ, ◌+◌, ◌*◌, ◌/◌, ◌%◌, ◌^◌, ◌<◌, List, get_or, sym, ap, ◌∙◌, rules}
use Rattle.std.specs.Int.Bits.{bit_xor}
use lib.Arith.{digits_div, digits_mod}
use lib.Bits.{xor_block, xor_lt}
use Rattle.bits.proofs.Xor.{xor_assoc}
use Rattle.decoder_tables.specs.private.Tables.{single, IsSingleBits, flipped_at}
use Rattle.decoder_tables.proofs.Locator.flip.Goals as goal

-- one bit
flipped : (t : List ℕ) → IsSingleBits t → (hi lo i : ℕ) → lo < 2 ^ 64 → i < 128
    → (bit_xor hi (get_or t (2 * i) 0) * 2 ^ 64 + bit_xor lo (get_or t (2 * i + 1) 0) ≡ bit_xor (hi * 2 ^ 64 + lo) (single i))
    × (bit_xor lo (get_or t (2 * i + 1) 0) < 2 ^ 64)
flipped t T hi lo i l b = (
  sym (xor_block 64 hi (get_or t (2 * i) 0) lo (get_or t (2 * i + 1) 0) l (T.small i b)) ∙ ap (bit_xor (hi * 2 ^ 64 + lo)) (T.entry i b),
  xor_lt 64 lo (get_or t (2 * i + 1) 0) l (T.small i b),
)

-- two
both : (t : List ℕ) → IsSingleBits t → (hi lo i j : ℕ) → lo < 2 ^ 64 → i < 128 → j < 128
    → (bit_xor (bit_xor hi (get_or t (2 * i) 0)) (get_or t (2 * j) 0) ≡ flipped_at (hi * 2 ^ 64 + lo) i j / 2 ^ 64)
    × (bit_xor (bit_xor lo (get_or t (2 * i + 1) 0)) (get_or t (2 * j + 1) 0) ≡ flipped_at (hi * 2 ^ 64 + lo) i j % 2 ^ 64)
both t T hi lo i j l a b =
    let x = flipped t T hi lo i l a in
    let u = bit_xor hi (get_or t (2 * i) 0) in
    let v = bit_xor lo (get_or t (2 * i + 1) 0) in
    let y = flipped t T u v j x.1 b in
    let e : bit_xor u (get_or t (2 * j) 0) * 2 ^ 64 + bit_xor v (get_or t (2 * j + 1) 0) ≡ flipped_at (hi * 2 ^ 64 + lo) i j =
    y.0 ∙ ap (λ (n : ℕ). bit_xor n (single j)) x.0 ∙ xor_assoc (hi * 2 ^ 64 + lo) (single i) (single j) in (
      sym (digits_div (bit_xor u (get_or t (2 * j) 0)) y.1) ∙ ap (λ (n : ℕ). n / 2 ^ 64) e,
      sym (digits_mod (bit_xor u (get_or t (2 * j) 0)) y.1) ∙ ap (λ (n : ℕ). n % 2 ^ 64) e,
    )

pub returns-clause-hi : goal.returns-clause-hi
returns-clause-hi c =
    let a = c.args in
    rw (c.from-first.ensures, c.from-second.ensures)
    (both a.self.now.arrays.now.single_bits a.self.now.are_single_bits a.word.hi a.word.lo a.places.first a.places.second (search rules) a.places.within.0
    a.places.within.1).0

pub returns-clause-lo : goal.returns-clause-lo
returns-clause-lo c =
    let a = c.args in
    rw (c.from-first.ensures, c.from-second.ensures)
    (both a.self.now.arrays.now.single_bits a.self.now.are_single_bits a.word.hi a.word.lo a.places.first a.places.second (search rules) a.places.within.0
    a.places.within.1).1
