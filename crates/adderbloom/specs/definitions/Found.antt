-- What a search says, as numbers for a host in C.
-- Assumes nothing.
use Rattle.hunt.specs.definitions.Found.{Found, Refused, None, At}
use Rattle.adderbloom.specs.declared.hunts.Found.{Found as Numbers}

-- the refusal's number or 0; 1 where a start was found, else 0; its offset, 0 where none was found
unfoldable pub found_of : Found → Numbers
found_of (Refused refusal) = record { refusal = refusal; found = 0; offset = 0 }
found_of None = record { refusal = 0; found = 0; offset = 0 }
found_of (At offset) = record { refusal = 0; found = 1; offset = offset }
