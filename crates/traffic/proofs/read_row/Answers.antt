-- `traffic::read_row` meets its contract: the first m groups are read. Assumes nothing.
use mathlib.Core.Path.{◌∙◌}
use native.Mathlib.Omega.{arith}
use Rattle.bits.proofs.Filling.{filling_start, filling_step, filling_done}
use Rattle.traffic.specs.private.Lanes.{row_of}
use Rattle.traffic.proofs.Placing.{group_at}
use Rattle.traffic.proofs.read_row.Goals as goal

pub loop-m-init : goal.loop-m-init
loop-m-init c = filling_start _ c.told-groups

pub loop-m-preserved : goal.loop-m-preserved
loop-m-preserved c =
    filling_step _ _ c.loop-m.invariant c.loop-m-test.true (c.window.ensures ∙ group_at c.args.words.now c.fits-words c.args.s c.loop-m.m)

pub returns : goal.returns
unfolding row_of
returns c = filling_done _ c.loop-m.invariant (omega arith)
