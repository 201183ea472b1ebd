-- `shuffle::rotate_lane` meets its contract: the lane's words before word k are there, rotated. Assumes nothing.
use Rattle.shuffle.specs.private.Rotation.{LaneRotated}
use Rattle.shuffle.proofs.rotate_lane.Given as goal

abbrev pub invariant-loop-k : goal.invariant-loop-k
invariant-loop-k g l = LaneRotated g.R.Row.holds l.n l.p l.words l.initial.out l.k l.out
