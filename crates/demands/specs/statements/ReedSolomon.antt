-- Demand 3, second half: no Reed-Solomon codeword gets more wrong symbols than there are words carrying one of its symbols and hit by more than two flips;
-- and the exchanged places for which that is so. `proofs/ReedSolomon`, `proofs/Labels` and `proofs/Exceeded` prove them.
-- Assumes nothing.
use Rattle.std.specs.Prelude.{◌≡◌, ◌≢◌, ◌⊎◌, true, List, ℕ, ◌+◌, ◌*◌, ◌≤◌, ◌<◌}
use Rattle.lanes.specs.definitions.Permutation.{Places, named}
use Rattle.framing.specs.definitions.Places.{base}
use Rattle.demands.specs.definitions.Trial.{Trial, Accepted}
use Rattle.demands.specs.definitions.ReedSolomon.{Labels, Spans, Labelled, carries, Has, heavy_words, wrong_symbols, Exceeded}

-- there are labels by spans, wherever the spans begin
abbrev pub SpansExist : Type 0
SpansExist = (n : ℕ) (before : ℕ → ℕ) → (label : Labels) × Spans n before label

-- spans, wherever they begin, make labels that the bound needs
abbrev pub SpansLabel : Type 0
SpansLabel = (n : ℕ) (before : ℕ → ℕ) (label : Labels) → Spans n before label → Labelled n label

-- so it is in what is sent: a word that carries a symbol of c has one, and each symbol that comes back within n frames is in a word that carries it
abbrev pub CarriesExactly : Type 0
CarriesExactly =
    (ex : Places) (n : ℕ) (label : Labels)
    → ((c p w : ℕ) → p < 32 → w < 12 * n → carries ex label c p w ≡ true
    → (k : ℕ) × (q : ℕ) × (s : ℕ) × (k < 11) × (q < 32) × (s < 132 * n) × (label q s ≡ c) × Has ex n p w k q s)
    × ((q s : ℕ) → q < 32 → s + 144 < 132 * n
    → (k : ℕ) × (p : ℕ) × (w : ℕ) × (k < 11) × (p < 32) × (w < 12 * n) × (carries ex label (label q s) p w ≡ true) × Has ex n p w k q s)

-- the bound, for exchanged places that keep 0 from 2 and 1 from 3
abbrev pub ReedSolomonBound : Type 0
ReedSolomonBound =
    (ex : Places) → ex 0 ≢ ex 2 → ex 1 ≢ ex 3
    → (n : ℕ) (flips lanes room outs flag_buffers : ℕ → List ℕ) (t : Trial ex n flips lanes room outs flag_buffers) → Accepted t
    → (label : Labels) → Labelled n label
    → (c : ℕ) → wrong_symbols n t.back t.clean_back label c ≤ heavy_words ex n flips label c

-- the same in demand 3's words, of one set of places
abbrev pub Bounded : Places → Type 0
Bounded ex =
    (n : ℕ) (flips lanes room outs flag_buffers : ℕ → List ℕ) (t : Trial ex n flips lanes room outs flag_buffers) → Accepted t
    → (before : ℕ → ℕ) (label : Labels) → Spans n before label
    → (c : ℕ) → wrong_symbols n t.back t.clean_back label c ≤ heavy_words ex n flips label c

-- the base's places, {2,3}, and the other pairs {0,1}, {0,3} and {1,2}
abbrev pub FourPairs : Type 0
FourPairs = Bounded base × Bounded (named 3) × Bounded (named 9) × Bounded (named 6)

-- no other places will do: where 0 and 2, or 1 and 3, are on one side the bound fails
abbrev pub OtherPlaces : Type 0
OtherPlaces = (ex : Places) → (ex 0 ≡ ex 2) ⊎ (ex 1 ≡ ex 3) → Exceeded ex

-- so with {0,2} and with {1,3}
abbrev pub OtherPairs : Type 0
OtherPairs = Exceeded (named 5) × Exceeded (named 10)
