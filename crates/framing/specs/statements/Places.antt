-- What the base's exchanged places are (01, permutation: house); `proofs/Places` proves it.
-- Assumes nothing.
use Rattle.std.specs.Prelude.{◌≡◌, true, false}
use Rattle.framing.specs.definitions.Places.{base}

-- of each four symbols 0 and 1 stay, and 2 and 3 are exchanged
abbrev pub BasePlaces : Type 0
BasePlaces = (base 0 ≡ false) × (base 1 ≡ false) × (base 2 ≡ true) × (base 3 ≡ true)
