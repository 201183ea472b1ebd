-- `lanes::lane::Lane::row_kept` meets its contract: the blocks before place q are kept. Assumes nothing.
use Prim.Native.Nat.{◌+◌, ◌*◌}
use Rattle.bits.proofs.Filling.{Filling}
use Rattle.lanes.specs.private.Blocks.{kept_from}
use Rattle.lanes.proofs.Bytewise.{moved_byte}
use Rattle.lanes.proofs.lane.Lane.row_kept.Given as goal

abbrev pub invariant-loop-q : goal.invariant-loop-q
invariant-loop-q g l =
    let R = g.S.Side.rows in
    Filling (moved_byte l.self (λ j. kept_from R (R.start l.r + j))) (5 * R.depth l.r) l.initial.next l.next (5 * l.q)
