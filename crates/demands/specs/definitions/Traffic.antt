-- Demand 3's wrong bits counted, lane by lane, for the checker of test traffic (02, request 01).
-- Assumes nothing.
use Rattle.std.specs.Prelude.{Bool, not, ◌&&◌, List, ℕ, ◌+◌, ◌*◌, eqb, ltb}
use Rattle.bits.specs.definitions.Bits.{count}
use Rattle.lanes.specs.definitions.Permutation.{Places}
use Rattle.lanes.specs.definitions.Stream.{stream_bit}
use Rattle.demands.specs.definitions.Trial.{Trial}

-- bit i of lane p has come back wrong, as a test: `WrongTest` says that it is `Wrong`
abbrev pub is_wrong : {ex : Places} {n : ℕ} {flips lanes room outs flag_buffers : ℕ → List ℕ} → Trial ex n flips lanes room outs flag_buffers → ℕ → ℕ → Bool
is_wrong t p i = not (eqb (stream_bit t.back p i) (stream_bit t.clean_back p i))

-- how many bits of lane p of frame f have come back wrong, those of the first 36 blocks of the lane, 1,440 bits of zeros, not counted; written out
-- here as the demand has it, and not by what the checker compares
unfoldable pub wrong_in_lane : {ex : Places} {n : ℕ} {flips lanes room outs flag_buffers : ℕ → List ℕ} → Trial ex n flips lanes room outs flag_buffers
    → ℕ → ℕ → ℕ
wrong_in_lane t f p = count (λ i. not (ltb (1320 * f + i) 1440) && is_wrong t p (1320 * f + i)) 1320
