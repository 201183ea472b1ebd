-- `traffic::State::doubled` meets its contract, by `doubled_law`. Assumes nothing.
use Rattle.traffic.proofs.Squares.{doubled_lt, doubled_law}
use Rattle.traffic.proofs.State.doubled.Goals as goal

pub invariant_of-result : goal.invariant_of-result
invariant_of-result c = record { within = doubled_lt _ c.spread.ensures c.reduced.ensures c.reduced-square.ensures c.terms-2.ensures }

pub returns : goal.returns
returns c =
    doubled_law c.args.self.bits c.args.self.within c.terms.ensures c.spread.ensures c.reduced.ensures c.reduced-square.ensures c.terms-2.ensures
