-- `traffic::put_blocks` meets its contract: lane after lane, `blocks_step`. Assumes nothing.
use mathlib.Core.Path.{refl}
use native.Mathlib.Omega.{arith}
use lib.Dec.{lit<}
use Rattle.traffic.proofs.Putting.{blocks_step}
use Rattle.traffic.proofs.put_blocks.Goals as goal

pub loop-q-preserved : goal.loop-q-preserved
loop-q-preserved c =
    let q = c.loop-q.q in
    let h = c.requires in
    let t = c.turned.ensures in
    blocks_step q 3 h (lit< tt) refl (omega arith) t
    (blocks_step q 2 h (lit< tt) refl (omega arith) t
    (blocks_step q 1 h (lit< tt) refl (omega arith) t
    (blocks_step q 0 h (lit< tt) (omega arith) (omega arith) t c.loop-q.invariant c.put_block.ensures)
    c.put_block-in-loop-q.ensures) c.put_block-in-loop-q-2.ensures) c.put_block-in-loop-q-3.ensures
