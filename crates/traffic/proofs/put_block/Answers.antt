-- `traffic::put_block` meets its contract, by `block_law` and `last_law`. Assumes nothing.
use mathlib.Core.Path.{refl, ap, ◌∙◌}
use native.Mathlib.Omega.{arith}
use lib.ListN.{take}
use Rattle.traffic.proofs.Putting.{block_law, last_law}
use Rattle.traffic.proofs.put_block.Goals as goal

pub returns-then-i-lt32 : goal.returns-then-i-lt32
returns-then-i-lt32 c = block_law c.if-i-lt32.true (c.put.ensures.room (omega arith))

pub returns-else-i-lt32 : goal.returns-else-i-lt32
returns-else-i-lt32 c =
    last_law _ c.args.lanes.now c.copy_from_slice.new.self (omega arith) refl (omega arith) (omega arith) c.fits-lanes
    (c.copy_from_slice.ensures.after ∙ ap (take 5) c.to_be_bytes.ensures)
