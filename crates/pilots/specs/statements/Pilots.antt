-- What is to be shown of the 96 pilots (01, pilots); `proofs/Table4` proves each.
-- Assumes nothing.
use Rattle.std.specs.Prelude.{◌≡◌, ◌⊎◌, ℕ, ◌+◌, ◌*◌, ◌<◌, pos, negsuc, Some, get_or}
use Rattle.bits.specs.definitions.Bits.{tabulate}
use Rattle.pilots.specs.definitions.Levels.{level_of}
use Rattle.pilots.specs.definitions.Table5.{pilots}
use Rattle.pilots.specs.definitions.Pilots.{pilot_of, pilot_label}

-- the 96 pilots of table 5 are what the polynomial and the seeds of table 4 produce
abbrev pub TablesAgree : Type 0
TablesAgree = pilots ≡ tabulate 96 pilot_of

-- a pilot's byte is its four labels, XI on top
abbrev pub PilotLabels : Type 0
PilotLabels = (k : ℕ) → k < 96 → get_or pilots k 0 ≡ ((pilot_label k 0 * 4 + pilot_label k 1) * 4 + pilot_label k 2) * 4 + pilot_label k 3

-- only outer levels occur: each tributary's label of each pilot has the level -3 or +3
abbrev pub OuterLevels : Type 0
OuterLevels = (k t : ℕ) → k < 96 → t < 4 → (level_of (pilot_label k t) ≡ Some (negsuc 2)) ⊎ (level_of (pilot_label k t) ≡ Some (pos 3))
