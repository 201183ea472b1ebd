-- `traffic::State::as_far` meets its contract: the first i terms are added. Assumes nothing.
use mathlib.Core.Path.{ap, ◌∙◌}
use native.Mathlib.Nat.{mod-lt, lt_of_lt_of_le}
use lib.Dec.{lit<, lit≤}
use Rattle.bits.proofs.Sums.{sum_at}
use Rattle.traffic.specs.definitions.Register.{state_from}
use Rattle.traffic.proofs.Jumping.{summing_start, summing_step, summing_done, picked_lt, states_at, as_far}
use Rattle.traffic.proofs.State.as_far.Goals as goal

pub loop-i-init : goal.loop-i-init
loop-i-init c = summing_start _ _

pub overflow_mul-sum : goal.overflow_mul-sum
overflow_mul-sum c = record { fits = lt_of_lt_of_le (picked_lt _ _ (mod-lt _ (lit< tt)) (mod-lt _ (lit< tt))) (lit≤ tt) }

pub loop-i-preserved : goal.loop-i-preserved
loop-i-preserved c =
    summing_step _ _ c.loop-i.invariant c.loop-i-test.true
    (states_at _ c.loop-i.i c.args.self.within c.ahead.ensures c.ahead-2.ensures c.loop-i-test.true) (mod-lt _ (lit< tt))

pub invariant_of-result : goal.invariant_of-result
invariant_of-result c = record { within = c.loop-i.invariant.fits }

pub returns : goal.returns
returns c =
    let s = c.args.self in
    as_far c.args.other.bits s.bits s.within
    (summing_done _ _ c.loop-i.invariant c.loop-i-test.false ∙ ap (sum_at 31 (state_from s.bits)) c.terms-terms.ensures)
