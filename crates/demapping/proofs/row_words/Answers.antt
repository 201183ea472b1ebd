-- `demapping::row_words` meets its contract: the bytes before byte i of each word are there. Assumes nothing.
use native.Mathlib.Omega.{arith}
use Rattle.bits.proofs.Parts.{parts_start, parts_done}
use Rattle.demapping.proofs.Gathering.{words_step}
use Rattle.demapping.proofs.row_words.Goals as goal

pub loop-i-init : goal.loop-i-init
loop-i-init g c = parts_start _ (omega arith)

pub loop-i-preserved : goal.loop-i-preserved
loop-i-preserved g c =
    words_step c.args.s.now g.row.L c.args.at c.loop-i.i (record { byte = c.fits-s }) c.loop-i.invariant c.loop-i-test.true c.turned.ensures
    c.turned-in-loop-i.ensures c.turned-in-loop-i-2.ensures c.turned-in-loop-i-3.ensures c.lane_byte.ensures c.lane_byte-in-loop-i.ensures
    c.lane_byte-in-loop-i-2.ensures c.lane_byte-in-loop-i-3.ensures

pub returns : goal.returns
returns g c = parts_done _ c.loop-i.invariant (omega arith) (omega arith)
