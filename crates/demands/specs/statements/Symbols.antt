-- Demand 2: sent frames are, symbol for symbol, those of the agreement; `proofs/Symbols` proves it.
-- Assumes nothing.
use Rattle.std.specs.Prelude.{◌≡◌, List, ℕ, ◌+◌, ◌*◌, ◌<◌}
use Rattle.lanes.specs.definitions.Permutation.{Places}
use Rattle.framing.specs.definitions.Stream.{Sent}
use Rattle.demands.specs.definitions.Symbols.{word_sent, Symbols}

-- frame f has the symbols of words 12 f to 12 f + 11 of every lane. These rules leave nothing open, no bit of any symbol: whatever has the symbols of these
-- words is that frame
abbrev pub SymbolRule : Type 0
SymbolRule =
    (ex : Places) (n : ℕ) (lanes room : ℕ → List ℕ) (numbers : ℕ → ℕ) (frames stores : ℕ → List ℕ) → Sent ex n lanes room numbers frames stores
    → (f : ℕ) → f < n
    → Symbols (λ p k. word_sent ex lanes p (12 * f + k)) (frames f)
    × ((frame : List ℕ) → Symbols (λ p k. word_sent ex lanes p (12 * f + k)) frame → frame ≡ frames f)
