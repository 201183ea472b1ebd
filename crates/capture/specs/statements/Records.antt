-- The bytes of a record and what is read of them are one thing, both ways (01, capture records); `proofs/Records` proves it.
-- Assumes nothing.
use Rattle.std.specs.Prelude.{◌≡◌, List, ◌++◌, ℕ, ◌+◌, ◌*◌, ◌^◌, ◌<◌, length, drop}
use Rattle.bits.specs.definitions.Bits.{AllBytes}
use Rattle.capture.specs.definitions.Read.{Order, Frame}
use Rattle.capture.specs.definitions.Capture.{layout, read_at, symbols_at, order_record, frame_record, frame_records}

-- an order's record, with anything behind it, reads as that order
abbrev pub OrderReads : Type 0
OrderReads =
    (start asked allowed : ℕ) (rest : List ℕ) → start < 2 ^ 32 → asked < 2 ^ 32 → allowed < 2 ^ 32
    → read_at (order_record start asked allowed ++ rest) 0 ≡ Order start asked allowed layout.order_bytes

-- a frame's record, with anything behind it, reads as that frame, and its symbols lie where the answer says
abbrev pub FrameReads : Type 0
FrameReads =
    (number : ℕ) (symbols rest : List ℕ) → number < 2 ^ 32 → length symbols ≡ layout.symbols
    → (read_at (frame_record number symbols ++ rest) 0 ≡ Frame number layout.symbols_from layout.frame_bytes)
    × (symbols_at (frame_record number symbols ++ rest) layout.symbols_from ≡ symbols)

-- where an order is read, the bytes begin with its record, and the rest lies behind the next place
abbrev pub OrderFound : Type 0
OrderFound =
    (s : List ℕ) (start asked allowed next : ℕ) → AllBytes s → read_at s 0 ≡ Order start asked allowed next
    → (start < 2 ^ 32) × (asked < 2 ^ 32) × (allowed < 2 ^ 32) × (next ≡ layout.order_bytes)
    × (s ≡ order_record start asked allowed ++ drop next s)

-- where a frame is read, the bytes begin with its record, whose symbols lie where the answer says, and the rest lies behind the next place
abbrev pub FrameFound : Type 0
FrameFound =
    (s : List ℕ) (number from next : ℕ) → AllBytes s → read_at s 0 ≡ Frame number from next
    → (number < 2 ^ 32) × (from ≡ layout.symbols_from) × (next ≡ layout.frame_bytes)
    × (length (symbols_at s from) ≡ layout.symbols) × (s ≡ frame_record number (symbols_at s from) ++ drop next s)

-- the frames of a run, whatever stands before and behind: each reads as that frame in its place, with its number, its symbols and the place of the next
abbrev pub FramesRead : Type 0
FramesRead =
    (n : ℕ) (numbers : ℕ → ℕ) (frames : ℕ → List ℕ) (before rest : List ℕ) → ((k : ℕ) → k < n → (numbers k < 2 ^ 32) × (length (frames k) ≡ layout.symbols))
    → (k i : ℕ) → k < n → i ≡ length before + k * layout.frame_bytes
    → (read_at (before ++ (frame_records numbers frames n ++ rest)) i ≡ Frame (numbers k) (i + layout.symbols_from) (i + layout.frame_bytes))
    × (symbols_at (before ++ (frame_records numbers frames n ++ rest)) (i + layout.symbols_from) ≡ frames k)

-- how many bytes they are
abbrev pub RecordLengths : Type 0
RecordLengths =
    ((start asked allowed : ℕ) → length (order_record start asked allowed) ≡ layout.order_bytes)
    × ((number : ℕ) (symbols : List ℕ) → length symbols ≡ layout.symbols → length (frame_record number symbols) ≡ layout.frame_bytes)
    × ((n : ℕ) (numbers : ℕ → ℕ) (frames : ℕ → List ℕ) → ((k : ℕ) → k < n → length (frames k) ≡ layout.symbols)
    → length (frame_records numbers frames n) ≡ n * layout.frame_bytes)

-- all of them
pub record Records : Type 0 where
  pub order_reads : OrderReads
  pub frame_reads : FrameReads
  pub order_found : OrderFound
  pub frame_found : FrameFound
  pub frames_read : FramesRead
  pub record_lengths : RecordLengths
