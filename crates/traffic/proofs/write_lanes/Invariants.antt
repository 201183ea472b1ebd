-- The loop of `traffic::write_lanes`: the first i blocks of every lane stand. Assumes nothing.
use Rattle.traffic.specs.private.Lanes.{Placed}
use Rattle.traffic.proofs.write_lanes.Given as goal

abbrev pub invariant-loop-i : goal.invariant-loop-i
invariant-loop-i l = Placed l.words l.i l.lanes
