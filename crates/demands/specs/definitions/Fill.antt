-- Fill: what the words of a fresh run carry from before the stream (02, request 02; 01, interleaver).
-- Assumes nothing.
use Rattle.std.specs.Prelude.{◌≡◌, Bool, true, List, ℕ, ◌+◌, ◌*◌, ◌/◌, ◌%◌, ◌<◌, leb, ltb}
use Rattle.bits.specs.definitions.Bits.{bit_of}
use Rattle.lanes.specs.definitions.Permutation.{Places}
use Rattle.symbols.specs.definitions.Frame.{arrived}
use Rattle.framing.specs.definitions.Stream.{Sent}

-- bit i of an interleaved lane, counted over the stream, is from before the stream: it stands in output block m = i / 40, and input block m - 18 (m mod 3) is
-- negative
abbrev pub is_fill : ℕ → Bool
is_fill i = ltb (i / 40) (18 * (i / 40 % 3))

-- word w of a lane, counted over the stream, carries such a bit: it has bits 110 w to 110 w + 109 of the interleaved lane
abbrev pub CarriesFill : ℕ → Type 0
CarriesFill w = (q : ℕ) × (q < 110) × (is_fill (110 * w + q) ≡ true)

-- the word at flag place i of frame k of a run, word 12 k + i / 32 of its lane, is free of fill: it is word 14 or a later one
abbrev pub free_of_fill : ℕ → ℕ → Bool
free_of_fill k i = leb 14 (12 * k + i / 32)

-- bit q of word w of lane p, counted over the stream, has this value, by the lanes, in every stream sent from a fresh store that reaches word w
abbrev pub AlwaysCarries : Places → (p w q : ℕ) → ((ℕ → List ℕ) → ℕ) → Type 0
AlwaysCarries ex p w q value =
    (n : ℕ) (lanes room : ℕ → List ℕ) (numbers : ℕ → ℕ) (frames stores : ℕ → List ℕ) → Sent ex n lanes room numbers frames stores → w < 12 * n
    → bit_of 126 (arrived (frames (w / 12)) (32 * (w % 12) + p)) q ≡ value lanes
