-- `demapping::rows` meets its contract: the rows before row 4 q are there. Assumes nothing.
use native.Mathlib.Omega.{arith}
use Rattle.bits.proofs.Filling.{filling_start, filling_done}
use Rattle.demapping.proofs.Gathering.{rows_step}
use Rattle.demapping.proofs.rows.Goals as goal

pub loop-q-init : goal.loop-q-init
loop-q-init c = filling_start _ c.requires

pub loop-q-preserved : goal.loop-q-preserved
loop-q-preserved c =
    rows_step c.args.s.now c.loop-q.q c.loop-q-test.true c.loop-q.invariant c.row_words.ensures
    c.row_words-in-loop-q.ensures
    c.row_words-in-loop-q-2.ensures
    c.row_words-in-loop-q-3.ensures

pub returns : goal.returns
returns c = filling_done _ c.loop-q.invariant (omega arith)
