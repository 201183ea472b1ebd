-- What the function that takes in a record asks of its caller.
-- Assumes nothing.
use Rattle.std.specs.Prelude.{◌≡◌, List, ℕ, length}
use Rattle.capture.specs.definitions.Read.{Read, End, Refused, Order, Frame}
use Rattle.capture.specs.definitions.Capture.{layout, symbols_at}

-- the symbols of a frame that was read in the bytes s are all there
abbrev pub SymbolsThere : Read → List ℕ → Type 0
SymbolsThere End s = Unit
SymbolsThere (Refused refusal) s = Unit
SymbolsThere (Order start asked allowed next) s = Unit
SymbolsThere (Frame number from next) s = length (symbols_at s from) ≡ layout.symbols
