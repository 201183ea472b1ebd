-- `bch::add_parity` meets its contract: the words before word i have their parity. Assumes nothing.
use mathlib.Core.Path.{◌∙◌}
use native.Mathlib.Omega.{arith}
use borrow.Author.Rules.{rules}
use Rattle.bits.specs.definitions.Words.{word_at}
use Rattle.bits.proofs.Words.{row_start, row_rest, row_step, row_done}
use Rattle.bch.specs.definitions.Word.{coded_frame}
use Rattle.bch.proofs.Sent.{coded_halves}
use Rattle.bch.proofs.add_parity.Invariants.{sent}
use Rattle.bch.proofs.add_parity.Goals as goal

pub loop-i-init : goal.loop-i-init
loop-i-init c = row_start _ (search rules)

pub loop-i-preserved : goal.loop-i-preserved
unfolding word_at
loop-i-preserved c =
    let at = c.loop-i in
    let s = c.args.words.now in
    let h =
    coded_halves _ _ (word_at s at.i) _ (search rules) (c.word_in-word.ensures ∙ row_rest (sent s) at.invariant)
    (c.remainder.ensures ∙ c.requires.fold at.i (omega arith)) in
    row_step (sent s) at.invariant _ _ (omega arith) h.0 h.1

pub returns : goal.returns
unfolding coded_frame
returns c = row_done _ c.loop-i.invariant (omega arith)
