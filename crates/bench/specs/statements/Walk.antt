-- The walk over the whole, piece by piece, by any cut, and by the reader come to the same; `proofs/Walk` and `proofs/Reading` prove it.
-- Assumes nothing.
use Rattle.std.specs.Prelude.{◌≡◌, true, ◌⊎◌, List, ℕ}
use Rattle.bench.specs.declared.Run.{Run}
use Rattle.bench.specs.definitions.Run.{begun, is_stopped}
use Rattle.bench.specs.definitions.Walk.{examined, pieces, through, joined, Reading}

-- to step through the pieces is to walk over the whole
abbrev pub PiecesAlike : Type 0
PiecesAlike = (s : List ℕ) → through begun (pieces s) ≡ examined s

-- nothing is passed over: whatever bytes are given to each step, the run is stopped, or it is that of all of them
abbrev pub NothingPassedOver : Type 0
NothingPassedOver = (given : List (List ℕ)) → (is_stopped (through begun given).phase ≡ true) ⊎ (through begun given ≡ examined (joined given))

-- the reader walks over the capture: to whatever run its calls come, that is the capture's; and there are such calls
abbrev pub ReaderWalks : Type 0
ReaderWalks = ((s : List ℕ) (r : Run) → Reading s r → r ≡ examined s) × ((s : List ℕ) → Reading s (examined s))
