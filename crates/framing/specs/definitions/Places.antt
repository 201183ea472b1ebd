-- The exchanged places of sending and receiving.
-- Assumes nothing.
use Rattle.lanes.specs.definitions.Permutation.{Places, named}

-- the exchanged places of the base, 2 and 3 (01, permutation: house)
abbrev pub base : Places
base = named 12
