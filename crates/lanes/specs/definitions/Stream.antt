-- A run of frames: lanes of bits counted over the whole stream, and what the interleaver does to them (01, interleaver).
-- Assumes nothing.
use Rattle.std.specs.Prelude.{cond, List, ℕ, ◌+◌, ◌*◌, ◌-◌, ◌/◌, ◌%◌, ltb}
use Rattle.bits.specs.definitions.Bits.{bit_at}
use Rattle.lanes.specs.definitions.Permutation.{Lanes, Places, permuted}

-- bit i of lane p, counted over the frames of a stream
unfoldable pub stream_bit : (ℕ → List ℕ) → Lanes
stream_bit frames p i = bit_at (frames (i / 1320)) (1320 * p + i % 1320)

-- what came d bits before bit i, and 0 where that is before the stream
unfoldable pub delayed : ℕ → (ℕ → ℕ) → ℕ → ℕ
delayed d x i = cond (ltb i d) 0 (x (i - d))

-- the block rule: with blocks counted over the stream, output block m is input block m - 18 (m mod 3) of the permuted lane, zero where that is negative
unfoldable pub interleaved : Places → Lanes → Lanes
interleaved ex x p i = delayed (40 * (18 * (i / 40 % 3))) (permuted ex x p) i
