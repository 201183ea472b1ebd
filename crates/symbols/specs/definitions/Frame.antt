-- A frame of 6,144 symbols and the 384 words that it carries, word 32 k + p being word k of lane p (01, one frame in numbers, mapping and pilots).
-- Assumes nothing.
use Rattle.std.specs.Prelude.{cond, List, ℕ, ◌+◌, ◌*◌, ◌-◌, ◌/◌, ◌%◌, get_or, eqb}
use Rattle.bits.specs.definitions.Bits.{tabulate, number, bit_of, bit_at}
use Rattle.bits.specs.definitions.Words.{word_at, row_of}
use Rattle.shuffle.specs.definitions.Shuffle.{place, unplace}
use Rattle.symbols.specs.definitions.Mapping.{lane_of, place_of, payload_at, symbol_of, bit_in}
use Rattle.pilots.specs.definitions.Table5.{pilots}

-- bit i of symbol l of word k of all lanes, of a row of words: of its tributary's lane, the bit that stands at the place that it takes
unfoldable pub carried_bit : List ℕ → ℕ → ℕ → ℕ → ℕ
carried_bit s k l i = bit_of 126 (word_at s (32 * k + lane_of l (i / 2))) (unplace (lane_of l (i / 2)) (place_of l i))

-- payload symbol m: two bits of each of four words, XI on top
unfoldable pub payload : List ℕ → ℕ → ℕ
payload s m = number 8 (carried_bit s (m / 504) (m % 504))

-- symbol t of the frame: a pilot is the first of each 64
unfoldable pub symbol_at : List ℕ → ℕ → ℕ
symbol_at s t = cond (eqb (t % 64) 0) (get_or pilots (t / 64) 0) (payload s (63 * (t / 64) + t % 64 - 1))

-- the frame of a row of words
unfoldable pub frame_of : List ℕ → List ℕ
frame_of s = tabulate 6144 (symbol_at s)

-- the bit of a frame that stands at place r of word k of lane p
unfoldable pub placed_bit : List ℕ → ℕ → ℕ → ℕ → ℕ
placed_bit f k p r = bit_at f (8 * payload_at (504 * k + symbol_of p r) + bit_in p r)

-- word i as it arrives in the frame f
unfoldable pub arrived : List ℕ → ℕ → ℕ
arrived f i = number 126 (λ q. placed_bit f (i / 32) (i % 32) (place (i % 32) q))

-- the row of the words of a frame; its pilots are not looked at
unfoldable pub words_of : List ℕ → List ℕ
words_of f = row_of 384 (arrived f)
