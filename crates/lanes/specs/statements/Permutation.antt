-- The permutation is the same both ways (01, permutation); `proofs/Bytewise` proves it.
-- Assumes nothing.
use Rattle.std.specs.Prelude.{◌≡◌, ℕ, ◌<◌}
use Rattle.lanes.specs.definitions.Permutation.{Lanes, Places, permuted}

-- whatever the exchanged places are, lanes that are permuted twice are what they were
abbrev pub PermutedTwice : Type 0
PermutedTwice = (ex : Places) (x : Lanes) (p i : ℕ) → p < 32 → permuted ex (permuted ex x) p i ≡ x p i
