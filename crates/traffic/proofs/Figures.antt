-- The figures of test traffic, computed.
-- Assumes nothing.
use mathlib.Core.Path.{refl}
use Rattle.bits.specs.definitions.Bits.{value}
use Rattle.traffic.specs.definitions.Register.{entering, next_state, state_from, sent_bit}
use Rattle.traffic.specs.definitions.Figures.{state_figures}
use Rattle.traffic.specs.statements.Figures.{TrafficFigures}

pub traffic_figures : TrafficFigures
unfolding value entering next_state state_from sent_bit state_figures
traffic_figures = (refl, refl)
