-- The definitions give what the second program's stepping gave (02, request 01); `proofs/Figures` proves it.
-- Assumes nothing.
use Rattle.std.specs.Prelude.{◌≡◌, map}
use Rattle.bits.specs.definitions.Bits.{number}
use Rattle.traffic.specs.definitions.Register.{state_after, traffic_bit}
use Rattle.traffic.specs.definitions.Figures.{first_bits, StateFigure, state_figures}

-- the first 64 bits, and every row of the table of states
abbrev pub TrafficFigures : Type 0
TrafficFigures =
    (number 64 traffic_bit ≡ first_bits) × (map (λ (r : StateFigure). state_after r.bits) state_figures ≡ map (λ (r : StateFigure). r.state) state_figures)
