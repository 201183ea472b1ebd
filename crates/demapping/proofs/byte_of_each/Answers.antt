-- `demapping::byte_of_each` meets its contract: the bytes before byte i are there. Assumes nothing.
use mathlib.Core.Path.{refl}
use native.Mathlib.Omega.{arith}
use Rattle.bits.proofs.Filling.{filling_start, filling_step, filling_done}
use Rattle.demapping.proofs.Gathering.{byte_is}
use Rattle.demapping.proofs.byte_of_each.Goals as goal

pub loop-i-init : goal.loop-i-init
loop-i-init g c = filling_start _ refl

pub loop-i-preserved : goal.loop-i-preserved
loop-i-preserved g c = filling_step _ _ c.loop-i.invariant (omega arith) (byte_is _ g.row.K c.requires.0 c.to_le_bytes.ensures)

pub returns : goal.returns
returns g c = filling_done _ c.loop-i.invariant (omega arith)
