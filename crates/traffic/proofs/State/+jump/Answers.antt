-- `traffic::State::jump` meets its contract: `twice_far`. Assumes nothing.
use mathlib.Core.Path.{◌∙◌}
use Rattle.traffic.proofs.Squares.{twice_far}
use Rattle.traffic.proofs.State.+jump.Goals as goal

pub returns : goal.returns
returns t c = c.ahead-2.ensures ∙ twice_far _ c.jump.ensures c.doubled.ensures
