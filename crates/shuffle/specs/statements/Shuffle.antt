-- The shuffle moves bits and loses none (01, shuffle); `proofs/Places` proves each.
-- Assumes nothing.
use Rattle.std.specs.Prelude.{◌≡◌, List, ℕ, ◌^◌, ◌<◌, get_or}
use Rattle.bits.specs.definitions.Words.{word_at, row_of}
use Rattle.shuffle.specs.definitions.Shuffle.{place, unplace, shuffled, unshuffled}

-- a bit comes back from its place, and a place from its bit
abbrev pub PlacesBack : Type 0
PlacesBack = (p q : ℕ) → (unplace p (place p q) ≡ q) × (place p (unplace p q) ≡ q)

-- the 126 bits of a word of any lane go to the 126 places, and each place is taken exactly once
abbrev pub TakenOnce : Type 0
TakenOnce =
    (p : ℕ)
    → ((q : ℕ) → q < 126 → place p q < 126)
    × ((r : ℕ) → r < 126 → (q : ℕ) × (q < 126) × (place p q ≡ r) × ((u : ℕ) → place p u ≡ r → u ≡ q))

-- a row of numbers of 64 bits, shuffled and shuffled back or the other way round, is the row of its words
abbrev pub ShuffleBack : Type 0
ShuffleBack =
    (s : List ℕ) → ((j : ℕ) → get_or s j 0 < 2 ^ 64)
    → (unshuffled (shuffled s) ≡ row_of 384 (word_at s)) × (shuffled (unshuffled s) ≡ row_of 384 (word_at s))
