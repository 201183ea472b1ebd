-- A frame's lanes and its words (01, one frame in numbers). The 32 lanes are one string of 5280 bytes, 165 a lane, lane 0 first: bit j of lane p is bit
-- 1320 p + j of the string. A lane is twelve words of 110 information bits.
-- Assumes nothing.
use Rattle.std.specs.Prelude.{List, ℕ, ◌+◌, ◌*◌, ◌/◌, ◌%◌, ◌^◌}
use Rattle.bits.specs.definitions.Bits.{bit_of, field_at, bytes}
use Rattle.bits.specs.definitions.Words.{word_at, row_of}

-- the information of word i of a frame's lanes: word 32 k + p is the 110 bits of lane p from its bit 110 k on
unfoldable pub information_at : List ℕ → ℕ → ℕ
information_at a i = field_at a (1320 * (i % 32) + 110 * (i / 32)) 110

-- the words of a frame's lanes, with parity bits 0
unfoldable pub lane_words : List ℕ → List ℕ
lane_words a = row_of 384 (λ i. information_at a i * 2 ^ 16)

-- the lanes of a frame's words: bit j of the string is bit j % 1320 % 110 of word j % 1320 / 110 of lane j / 1320
unfoldable pub word_lanes : List ℕ → List ℕ
word_lanes s = bytes 5280 (λ j. bit_of 126 (word_at s (32 * (j % 1320 / 110) + j / 1320)) (j % 1320 % 110))
