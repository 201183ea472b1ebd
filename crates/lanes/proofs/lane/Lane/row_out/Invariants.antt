-- `lanes::lane::Lane::row_out` meets its contract: the blocks of the turns before turn t have come out. Assumes nothing.
use Rattle.lanes.specs.private.Blocks.{TurnsOut}
use Rattle.lanes.proofs.lane.Lane.row_out.Given as goal

abbrev pub invariant-loop-t : goal.invariant-loop-t
invariant-loop-t g l = TurnsOut g.S.Side.rows l.self l.r l.t l.initial.out l.out
