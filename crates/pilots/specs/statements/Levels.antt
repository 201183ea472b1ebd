-- Labels convert to signed levels and back (01, levels); `proofs/Levels` proves each.
-- Assumes nothing.
use Rattle.std.specs.Prelude.{◌≡◌, ◌≢◌, ◌↔◌, ℕ, ◌<◌, ℤ, Some, None}
use Rattle.pilots.specs.definitions.Levels.{level_of, label_of}

-- a label has a level exactly if that level has this label
abbrev pub LevelsBack : Type 0
LevelsBack = (n : ℕ) (z : ℤ) → (level_of n ≡ Some z) ↔ (label_of z ≡ Some n)

-- a value has no level exactly if it is above 3
abbrev pub AboveThree : Type 0
AboveThree = (n : ℕ) → (level_of n ≡ None) ↔ (3 < n)

-- a level has no label exactly if it is any other than the levels of labels
abbrev pub OtherLevels : Type 0
OtherLevels = (z : ℤ) → (label_of z ≡ None) ↔ ((n : ℕ) → level_of n ≢ Some z)
