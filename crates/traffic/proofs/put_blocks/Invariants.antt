-- The loop of `traffic::put_blocks`: block i of the first 4 q lanes is made of the rows. Assumes nothing.
use Prim.Native.Nat.{◌*◌}
use Rattle.traffic.specs.private.Lanes.{BlocksPut}
use Rattle.traffic.proofs.put_blocks.Given as goal

abbrev pub invariant-loop-q : goal.invariant-loop-q
invariant-loop-q l = BlocksPut l.rows l.i (4 * l.q) l.initial.lanes l.lanes
