-- What stands at a place of a capture, as numbers for a host in C.
-- Assumes nothing.
use Rattle.std.specs.Prelude.{ℕ}
use Rattle.capture.specs.definitions.Read.{Read, End, Refused, Order, Frame}
use Rattle.adderbloom.specs.declared.records.Record.{Record}

-- what was read at a place: the refusal's number or 0; the kind, 0 for none, 1 for an order, 2 for a frame; the frame's number, or that of the first
-- frame ordered; the order's figures; where the frame's symbols lie; and the next place, which neither the end nor a refusal moves. What a kind does not
-- have is 0
unfoldable pub record_of : Read → ℕ → Record
record_of End place = record { refusal = 0; kind = 0; number = 0; asked = 0; allowed = 0; symbols = 0; next = place }
record_of (Refused refusal) place = record { refusal = refusal; kind = 0; number = 0; asked = 0; allowed = 0; symbols = 0; next = place }
record_of (Order start asked allowed next) place = record { refusal = 0; kind = 1; number = start; asked = asked; allowed = allowed; symbols = 0; next = next }
record_of (Frame number from next) place = record { refusal = 0; kind = 2; number = number; asked = 0; allowed = 0; symbols = from; next = next }
