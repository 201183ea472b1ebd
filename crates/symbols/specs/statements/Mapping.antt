-- The mapping can be undone (01, mapping); `proofs/Places` proves it.
-- Assumes nothing.
use Rattle.std.specs.Prelude.{◌≡◌, ℕ, ◌/◌, ◌<◌}
use Rattle.symbols.specs.definitions.Mapping.{lane_of, place_of, symbol_of, bit_in}

-- each of the 126 places of each of the 32 lanes goes to one bit of one of the 504 symbols and comes back from it; and each bit of each symbol comes from
-- one place of one lane and goes back to it
abbrev pub MappingBack : Type 0
MappingBack =
    ((p r : ℕ) → p < 32 → r < 126
    → (symbol_of p r < 504) × (bit_in p r < 8) × (lane_of (symbol_of p r) (bit_in p r / 2) ≡ p) × (place_of (symbol_of p r) (bit_in p r) ≡ r))
    × ((l i : ℕ) → l < 504 → i < 8
    → (lane_of l (i / 2) < 32) × (place_of l i < 126) × (symbol_of (lane_of l (i / 2)) (place_of l i) ≡ l) × (bit_in (lane_of l (i / 2)) (place_of l i) ≡ i))
