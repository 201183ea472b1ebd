-- `symbols::write_two_bytes` meets its contract: the bytes before byte 4 i are there. Assumes nothing.
use mathlib.Core.Path.{◌∙◌}
use native.Mathlib.Omega.{arith}
use Rattle.bits.proofs.Filling.{filling_start, filling_done}
use Rattle.symbols.proofs.Symbols.{two_bytes_step}
use Rattle.symbols.proofs.write_two_bytes.Goals as goal

pub loop-i-init : goal.loop-i-init
loop-i-init c = filling_start _ (omega arith)

pub loop-i-preserved : goal.loop-i-preserved
loop-i-preserved c =
    two_bytes_step _ _ c.loop-i.i c.loop-i-test.true (c.copy_from_slice.ensures.after ∙ c.to_le_bytes.ensures)
    (c.copy_from_slice-in-loop-i.ensures.after ∙ c.to_le_bytes-in-loop-i.ensures) c.loop-i.invariant

pub returns : goal.returns
returns c = filling_done _ c.loop-i.invariant (omega arith)
