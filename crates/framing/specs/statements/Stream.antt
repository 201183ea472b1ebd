-- What the words of the frames sent carry (01, interleaver); `proofs/Stream` proves it.
-- Assumes nothing.
use Rattle.std.specs.Prelude.{◌≡◌, List, ℕ, ◌+◌, ◌*◌, ◌/◌, ◌%◌, ◌<◌}
use Rattle.bits.specs.definitions.Bits.{bit_of}
use Rattle.bch.specs.definitions.Code.{CodeWord}
use Rattle.lanes.specs.definitions.Permutation.{Places}
use Rattle.lanes.specs.definitions.Stream.{stream_bit, interleaved}
use Rattle.symbols.specs.definitions.Frame.{arrived}
use Rattle.framing.specs.definitions.Stream.{Sent}

-- demand 2, the block rule: no call is refused; what arrives undamaged are code words; and word w of lane p, counted over the stream, carries bits
-- 110 w to 110 w + 109 of the interleaved lane
abbrev pub BlockRule : Type 0
BlockRule =
    (ex : Places) (n : ℕ) (lanes room : ℕ → List ℕ) (numbers : ℕ → ℕ) (frames stores : ℕ → List ℕ) → Sent ex n lanes room numbers frames stores
    → ((f : ℕ) → f < n → numbers f ≡ 0)
    × ((f i : ℕ) → f < n → i < 384 → CodeWord (arrived (frames f) i))
    × ((p w q : ℕ) → p < 32 → w < 12 * n → q < 110
    → bit_of 126 (arrived (frames (w / 12)) (32 * (w % 12) + p)) q ≡ interleaved ex (stream_bit lanes) p (110 * w + q))
