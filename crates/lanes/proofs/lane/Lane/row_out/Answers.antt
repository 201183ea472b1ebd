-- `lanes::lane::Lane::row_out` meets its contract: the blocks of the turns before turn t have come out. Assumes nothing.
use mathlib.Core.Path.{◌∙◌}
use Prim.Native.Nat.{◌+◌, ◌*◌}
use native.Mathlib.Omega.{arith}
use Rattle.lanes.proofs.Turns.{turns_step}
use Rattle.lanes.proofs.lane.Lane.row_out.Goals as goal

pub loop-t-preserved : goal.loop-t-preserved
loop-t-preserved g c =
    let put = c.put_block in
    turns_step _ (15 * c.loop-t.t + 5 * c.args.r + 5) _ c.loop-t.invariant c.requires.1 (omega arith) (omega arith) put.auto.out
    (put.ensures ∙ c.turned_out.ensures)
