-- `traffic::read_rows` meets its contract: row after row. Assumes nothing.
use native.Mathlib.Omega.{arith}
use Rattle.bits.proofs.Filling.{filling_start, filling_step, filling_done}
use Rattle.traffic.specs.private.Lanes.{rows_of}
use Rattle.traffic.proofs.read_rows.Goals as goal

pub loop-j-init : goal.loop-j-init
loop-j-init c = filling_start _ c.told-rows

pub loop-j-preserved : goal.loop-j-preserved
loop-j-preserved c = filling_step _ _ c.loop-j.invariant c.loop-j-test.true c.read_row.ensures

pub returns : goal.returns
unfolding rows_of
returns c = filling_done _ c.loop-j.invariant (omega arith)
