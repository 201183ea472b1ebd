-- The shuffle (01, shuffle; 000, 6; 001): where a bit of a word goes, and where it comes from; and all words of a frame, word 32 k + p being word k of lane p.
-- Assumes nothing.
use Rattle.std.specs.Prelude.{cond, List, ℕ, ◌+◌, ◌*◌, ◌%◌, ltb}
use Rattle.bits.specs.definitions.Bits.{number, bit_of}
use Rattle.bits.specs.definitions.Words.{word_at, row_of}

-- the place to which bit q of a word of lane p goes: information bits rotate by 20 p places, parity stays at 110 to 125
unfoldable pub place : ℕ → ℕ → ℕ
place p q = cond (ltb q 110) ((q + 20 * p) % 110) q

-- the bit that stands at a place: a rotation by 20 p and one by 90 p bring each bit back
unfoldable pub unplace : ℕ → ℕ → ℕ
unplace p r = cond (ltb r 110) ((r + 90 * p) % 110) r

-- a row of a frame's words with every bit at its place
unfoldable pub shuffled : List ℕ → List ℕ
shuffled s = row_of 384 (λ i. number 126 (λ r. bit_of 126 (word_at s i) (unplace (i % 32) r)))

-- and with every bit back from its place
unfoldable pub unshuffled : List ℕ → List ℕ
unshuffled s = row_of 384 (λ i. number 126 (λ q. bit_of 126 (word_at s i) (place (i % 32) q)))
