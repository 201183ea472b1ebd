-- Frames of test traffic, taken one after the other and asked for directly (02, request 01); `proofs/Frames` proves each.
-- Assumes nothing.
use Rattle.std.specs.Prelude.{◌≡◌, List, ℕ, suc, ◌+◌, ◌*◌, ◌%◌, ◌^◌, ◌<◌, length}
use Rattle.lanes.specs.definitions.Stream.{stream_bit}
use Rattle.traffic.specs.definitions.Register.{state_after, traffic_bit}
use Rattle.traffic.specs.definitions.Traffic.{frame_bits, traffic_from, traffic_frame, Continues, Generated, Continued}

-- the frame that is asked for directly begins at its state
abbrev pub FrameFrom : Type 0
FrameFrom = (f : ℕ) → traffic_frame f ≡ traffic_from (state_after (frame_bits * f))

-- frames taken one after the other from the seed: none is refused, each leaves the state that is found directly, and they are what calls for the frames 0 to
-- n - 1 leave, with the same outputs and with any others
abbrev pub OneAfterTheOther : Type 0
OneAfterTheOther =
    (n : ℕ) (outs : ℕ → List ℕ) (numbers states : ℕ → ℕ) (lanes : ℕ → List ℕ) → Continued n outs numbers states lanes
    → ((f : ℕ) → f < n → (numbers f ≡ 0) × (states (suc f) ≡ state_after (frame_bits * suc f)))
    × Generated n outs lanes
    × ((outs' lanes' : ℕ → List ℕ) → Generated n outs' lanes' → (f : ℕ) → f < n → lanes f ≡ lanes' f)

-- and the stream is one sequence across frames: bit c of symbol s of lane p, counted over all of them, is bit 320 s + 10 p + c of the test signal
abbrev pub OneSequence : Type 0
OneSequence =
    (n : ℕ) (outs lanes : ℕ → List ℕ) → Generated n outs lanes → (s p c : ℕ) → p < 32 → c < 10 → 10 * s + c < 1320 * n
    → stream_bit lanes p (10 * s + c) ≡ traffic_bit (320 * s + 10 * p + c)

-- there are such calls of both kinds, for any outputs of the right length; and lanes that were generated are whole
abbrev pub TrafficExists : Type 0
TrafficExists =
    (n : ℕ) (outs : ℕ → List ℕ)
    → (((f : ℕ) → f < n → length (outs f) ≡ 5280)
    → Generated n outs traffic_frame × ((numbers : ℕ → ℕ) × (states : ℕ → ℕ) × Continued n outs numbers states traffic_frame))
    × ((lanes : ℕ → List ℕ) → Generated n outs lanes → (f : ℕ) → f < n → length (lanes f) ≡ 5280)

-- the top bit of a kept state is not looked at
abbrev pub TopBit : Type 0
TopBit = (s : ℕ) (o : List ℕ) (r s' : ℕ) (o' : List ℕ) → length o ≡ 5280 → Continues s o r s' o' → Continues (s % 2 ^ 31) o r s' o'
