-- What a search says, and how the code's answers say it.
-- Assumes nothing.
use Rattle.std.specs.Prelude.{ℕ, Option, Result, Ok, Err}
use Rattle.std.specs.Prelude.{Some as here, None as nowhere}
use Rattle.refusal.specs.declared.Refusal.{Refusal}
use Rattle.refusal.specs.definitions.Refusal.{number_of}

-- a refusal's number; no frame starts in the run; the first starts at this offset
pub data Found : Type 0 where
  Refused : ℕ → Found
  None : Found
  At : ℕ → Found

-- what a result says
abbrev pub found_in : Result (Option ℕ) Refusal → Found
found_in (Ok (here o)) = At o
found_in (Ok nowhere) = None
found_in (Err refusal) = Refused (number_of refusal)
