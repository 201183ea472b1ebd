-- Bench figures 1 to 12 (01, bench figures): the definitions give what is printed; `proofs/Figures` proves it.
-- Assumes nothing.
use Rattle.std.specs.Prelude.{◌≡◌, map}
use Rattle.framing.specs.definitions.Figures.{Figure, figures}

-- every row gives what is printed
abbrev pub BenchFigures : Type 0
BenchFigures = map (λ (r : Figure). r.given) figures ≡ map (λ (r : Figure). r.printed) figures
