-- `lanes::merge_blocks` meets its contract: the first i bytes are merged. Assumes nothing.
use mathlib.Core.Path.{refl}
use native.Mathlib.Omega.{arith}
use Rattle.bits.proofs.Filling.{filling_start, filling_step}
use Rattle.lanes.specs.private.Blocks.{merged_byte}
use Rattle.lanes.proofs.merge_blocks.Goals as goal

pub loop-i-init : goal.loop-i-init
loop-i-init c = filling_start _ (omega arith)

pub loop-i-preserved : goal.loop-i-preserved
unfolding merged_byte
loop-i-preserved c = filling_step _ _ c.loop-i.invariant (omega arith) refl
