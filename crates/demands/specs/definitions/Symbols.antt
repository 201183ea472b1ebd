-- The symbols of a frame sent (demand 2), by 01's own rules and forwards: what each word of a stream is, and to which symbol each of its bits goes.
-- Assumes nothing.
use Rattle.std.specs.Prelude.{◌≡◌, List, ℕ, ◌+◌, ◌*◌, ◌<◌, length, get_or}
use Rattle.bits.specs.definitions.Bits.{number, bit_of, bit_at, AllBytes}
use Rattle.bch.specs.definitions.Code.{coded}
use Rattle.lanes.specs.definitions.Permutation.{Places}
use Rattle.lanes.specs.definitions.Stream.{stream_bit, interleaved}
use Rattle.shuffle.specs.definitions.Shuffle.{place}
use Rattle.symbols.specs.definitions.Mapping.{lane_of, upper, lower, payload_at}
use Rattle.pilots.specs.definitions.Table5.{pilots}

-- word w of lane p, counted over the stream: bits 110 w to 110 w + 109 of the lane, permuted and interleaved, and their parity
abbrev pub word_sent : Places → (ℕ → List ℕ) → ℕ → ℕ → ℕ
word_sent ex lanes p w = coded (number 110 (λ q. interleaved ex (stream_bit lanes) p (110 * w + q)))

-- A frame has the symbols of its words, `word p k` being word k of lane p: 6,144 symbols, a byte each, of which the first of each 64 is a pilot. Of payload
-- symbol 504 k + l, tributary t (XI, XQ, YI, YQ) has two bits of word k of the lane that it takes there: as its label's upper bit the bit q that the shuffle
-- brings to the place `upper l`, and as the lower bit the one that it brings to the place `lower l`
pub record Symbols (word : ℕ → ℕ → ℕ) (frame : List ℕ) : Type 0 where
  pub whole : length frame ≡ 6144
  pub bytes : AllBytes frame
  pub pilot : (k : ℕ) → k < 96 → get_or frame (64 * k) 0 ≡ get_or pilots k 0
  -- of a label's upper bit
  pub upper_bit : (k l t q : ℕ) → k < 12 → l < 504 → t < 4 → q < 126 → place (lane_of l t) q ≡ upper l
      → bit_at frame (8 * payload_at (504 * k + l) + 2 * t) ≡ bit_of 126 (word (lane_of l t) k) q
  -- and of its lower bit
  pub lower_bit : (k l t q : ℕ) → k < 12 → l < 504 → t < 4 → q < 126 → place (lane_of l t) q ≡ lower l
      → bit_at frame (8 * payload_at (504 * k + l) + 2 * t + 1) ≡ bit_of 126 (word (lane_of l t) k) q
