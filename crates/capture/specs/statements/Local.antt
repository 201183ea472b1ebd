-- A record reads the same by itself, so a program that holds one record at a time walks the capture (01, account and verdict); `proofs/Local` proves it.
-- Assumes nothing.
use Rattle.std.specs.Prelude.{◌≡◌, ◌≢◌, List, ◌++◌, ℕ, ◌+◌, ◌≤◌, length, take, drop}
use Rattle.capture.specs.definitions.Read.{End, Refused, Order, Frame}
use Rattle.capture.specs.definitions.Capture.{layout, read_at, shifted, symbols_at, wanted}

-- what stands at a place is what stands at the beginning of the part from there on: what lies before it does not matter
abbrev pub ReadsFromHere : Type 0
ReadsFromHere = (s : List ℕ) (i : ℕ) → read_at s i ≡ shifted i (read_at (drop i s) 0)

-- more bytes behind change nothing but an end and a record cut short: a whole record, and whatever refuses it, reads the same in front of them
abbrev pub ReadsWithMore : Type 0
ReadsWithMore = (s t : List ℕ) (i : ℕ) → read_at s i ≢ End → read_at s i ≢ Refused 6 → read_at (s ++ t) i ≡ read_at s i

-- the symbols are the same as well: what lies before them does not matter, nor, where all of them are there, what lies behind
abbrev pub SymbolsAlike : Type 0
SymbolsAlike =
    ((s : List ℕ) (i k : ℕ) → symbols_at s (i + k) ≡ symbols_at (drop i s) k)
    × ((s t : List ℕ) (i : ℕ) → i + layout.symbols ≤ length s → symbols_at (s ++ t) i ≡ symbols_at s i)

-- the bytes wanted, or what is left, are enough: they read as all that follows does, and what is read whole ends behind them
abbrev pub WantedReads : Type 0
WantedReads =
    (s : List ℕ)
    → (read_at (take (wanted s) s) 0 ≡ read_at s 0)
    × ((start asked allowed next : ℕ) → read_at s 0 ≡ Order start asked allowed next → next ≡ wanted s)
    × ((number from next : ℕ) → read_at s 0 ≡ Frame number from next → (next ≡ wanted s) × (symbols_at (take (wanted s) s) from ≡ symbols_at s from))

-- the same bytes are wanted once some of them are there: the length alone decides
abbrev pub WantedAlike : Type 0
WantedAlike = (s t : List ℕ) → layout.length_bytes ≤ length s → wanted (s ++ t) ≡ wanted s

-- all of it
abbrev pub ReadLocal : Type 0
ReadLocal = ReadsFromHere × ReadsWithMore × SymbolsAlike × WantedReads × WantedAlike
