-- The exchanged places of the base.
-- Assumes nothing.
use mathlib.Core.Path.{refl}
use Rattle.lanes.specs.definitions.Permutation.{named}
use Rattle.framing.specs.statements.Places.{BasePlaces}

pub base_places : BasePlaces
unfolding named
base_places = (refl, refl, refl, refl)
