-- `traffic::State::as_far` meets its contract: the first i terms are added. Assumes nothing.
use Rattle.traffic.specs.definitions.Register.{state_from}
use Rattle.traffic.proofs.Jumping.{Summing}
use Rattle.traffic.proofs.State.as_far.Given as goal

abbrev pub invariant-loop-i : goal.invariant-loop-i
invariant-loop-i l = Summing (state_from l.fn.self.bits) l.terms l.sum l.i
