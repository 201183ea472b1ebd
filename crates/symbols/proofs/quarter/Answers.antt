-- `symbols::quarter` meets its contract: the rows before row 4 q are there. Assumes nothing.
use mathlib.Core.Path.{◌∙◌}
use Prim.Native.Nat.{◌/◌}
use native.Mathlib.Omega.{arith}
use lib.ListN.{length}
use Rattle.bits.proofs.Filling.{filling_start, filling_done}
use Rattle.symbols.proofs.Symbols.{quarter_step}
use Rattle.symbols.proofs.quarter.Goals as goal

pub loop-q-init : goal.loop-q-init
loop-q-init g c = filling_start _ (omega arith)

pub loop-q-preserved : goal.loop-q-preserved
loop-q-preserved g c =
    let long = c.as_chunks.ensures.front_len in
    quarter_step c.args.b.now g.row.E c.loop-q.q (length c.args.b.now / 256) (omega (arith, long)) (omega arith) c.as_chunks.ensures.front
    c.loop-q.invariant (c.copy_from_slice.ensures.after ∙ c.row_quarter.ensures)
    (c.copy_from_slice-in-loop-q.ensures.after ∙ c.row_quarter-in-loop-q.ensures)
    (c.copy_from_slice-in-loop-q-2.ensures.after ∙ c.row_quarter-in-loop-q-2.ensures)
    (c.copy_from_slice-in-loop-q-3.ensures.after ∙ c.row_quarter-in-loop-q-3.ensures)

pub returns : goal.returns
returns g c = filling_done _ c.loop-q.invariant (omega (arith, c.as_chunks.ensures.front_len))
