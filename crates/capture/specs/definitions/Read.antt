-- What stands at a place of a capture, as the definitions name it, and what the code answers for it. Assumes nothing.
use Rattle.std.specs.Prelude.{ℕ, Option, Some, None, Result, Ok, Err}
use Rattle.refusal.specs.declared.Refusal.{Refusal}
use Rattle.refusal.specs.definitions.Refusal.{number_of}
use Rattle.capture.specs.declared.Record.{Record}
use Rattle.capture.specs.declared.Record.TheVariants as found

-- the end, a refusal by its number, an order, or a frame with the place from which its symbols lie; and the next place
pub data Read : Type 0 where
  End : Read
  Refused : (refusal : ℕ) → Read
  Order : (start asked allowed next : ℕ) → Read
  Frame : (number from next : ℕ) → Read

-- a record is an order or a frame
abbrev pub record_in : Record → Read
record_in (found.Order start asked allowed next) = Order start asked allowed next
record_in (found.Frame number from next) = Frame number from next

-- no record is the end
abbrev pub read_in : Result (Option Record) Refusal → Read
read_in (Ok None) = End
read_in (Ok (Some x)) = record_in x
read_in (Err refusal) = Refused (number_of refusal)

-- what stands there, whatever tells of a refusal
abbrev pub standing_in : {E : Type 0} → Result (Option Record) E → Read
standing_in (Ok None) = End
standing_in (Ok (Some x)) = record_in x
standing_in (Err told) = Refused 0
