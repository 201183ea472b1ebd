-- `symbols::two_bytes` meets its contract: the numbers before number i are there. Assumes nothing.
use native.Mathlib.Omega.{arith}
use Rattle.bits.proofs.Filling.{filling_start, filling_step, filling_done}
use Rattle.symbols.proofs.two_bytes.Goals as goal

pub loop-i-init : goal.loop-i-init
loop-i-init c = filling_start _ (omega arith)

pub loop-i-preserved : goal.loop-i-preserved
loop-i-preserved c = filling_step _ _ c.loop-i.invariant c.loop-i-test.true c.from_le_bytes.ensures

pub returns : goal.returns
returns c = filling_done _ c.loop-i.invariant (omega arith)
