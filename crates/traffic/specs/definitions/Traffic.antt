-- Test traffic (02, request 01; 000, 4.7.2): the test signal in lanes, frame by frame, and the calls that generate it.
-- Assumes nothing.
use Rattle.std.specs.Prelude.{◌≡◌, List, ℕ, suc, ◌+◌, ◌*◌, ◌/◌, ◌%◌, ◌<◌, length}
use Rattle.bits.specs.definitions.Call.{unless, after}
use Rattle.lanes.specs.definitions.Permutation.{Lanes, lane_bytes}
use Rattle.traffic.specs.definitions.Register.{seed, state_from, bit_from, traffic_bit}

-- a stream placed from lane 0 on, ten bits a lane across 32 lanes: stream bit 320 s + 10 p + c is bit c of symbol s of lane p, so bit 10 s + c of the lane
unfoldable pub placed : (ℕ → ℕ) → Lanes
placed x p i = x (320 * (i / 10) + 10 * p + i % 10)

-- the bits of a frame: 32 lanes of 1,320
abbrev pub frame_bits : ℕ
frame_bits = 42240

-- the lanes of the frame that begins at the state s
unfoldable pub traffic_from : ℕ → List ℕ
traffic_from s = lane_bytes (placed (bit_from s))

-- the lanes of frame f, counted from the fresh start and not by a capture's numbers: it begins at stream bit 42,240 f, so it has
-- bits 1,320 f to 1,320 f + 1,319 of every lane of the test signal
unfoldable pub traffic_frame : ℕ → List ℕ
traffic_frame f = lane_bytes (λ p i. placed traffic_bit p (1320 * f + i))

-- a call for frame f with the output o: the number answered, 3 where o is not 5,280 bytes, and the output at exit
pub record Generates (f : ℕ) (o : List ℕ) (r : ℕ) (o' : List ℕ) : Type 0 where
  pub number : r ≡ unless 5280 o 3 0
  pub output : o' ≡ after (unless 5280 o 3 0) (traffic_frame f) o

-- a call that goes on from a kept state s, with the output o: the number answered, the state and the output at exit
pub record Continues (s : ℕ) (o : List ℕ) (r : ℕ) (s' : ℕ) (o' : List ℕ) : Type 0 where
  pub number : r ≡ unless 5280 o 3 0
  pub state : s' ≡ after (unless 5280 o 3 0) (state_from s frame_bits) s
  pub output : o' ≡ after (unless 5280 o 3 0) (traffic_from s) o

-- calls for the frames 0 to n - 1, none of them refused, and the lanes that they left
pub record Generated (n : ℕ) (outs lanes : ℕ → List ℕ) : Type 0 where
  pub call : (f : ℕ) → f < n → Generates f (outs f) 0 (lanes f)

-- n calls from the seed on, each from the state that the one before left, with 5,280 bytes lent to each
pub record Continued (n : ℕ) (outs : ℕ → List ℕ) (numbers states : ℕ → ℕ) (lanes : ℕ → List ℕ) : Type 0 where
  pub whole : (f : ℕ) → f < n → length (outs f) ≡ 5280
  pub fresh : states 0 ≡ seed
  pub call : (f : ℕ) → f < n → Continues (states f) (outs f) (numbers f) (states (suc f)) (lanes f)
