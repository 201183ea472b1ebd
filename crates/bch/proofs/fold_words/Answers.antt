-- `bch::fold_words` meets its contract: the words before word i are folded, and none of their upper numbers exceeds what is gathered. Assumes nothing.
use native.Mathlib.Nat.{le_trans}
use native.Mathlib.Omega.{arith}
use borrow.Author.Count.{below_more}
use borrow.Author.Rules.{rules}
use Rattle.bits.proofs.Xor.{or_within}
use Rattle.bch.proofs.Folding.{folded_start, folded_step}
use Rattle.bch.proofs.fold_words.Goals as goal

pub loop-i-init : goal.loop-i-init
loop-i-init g c = record { folded = folded_start _ _ _; within = search rules }

pub loop-i-preserved : goal.loop-i-preserved
loop-i-preserved g c =
    let at = c.loop-i in
    let more = or_within at.uppers _ in
    record {
      folded = folded_step _ _ at.invariant.folded (search rules) c.word_in.ensures c.fold.ensures;
      within = below_more _ _ (λ k h. le_trans (at.invariant.within k h) more.0) more.1;
    }

pub returns : goal.returns
returns g c =
    let I = c.loop-i.invariant in
    record {
      folded_words = record { fold = λ k h. I.folded.fold k (omega arith) };
      uppers_within = record { number = c.fits-words; within = λ k h. I.within k (omega arith) };
    }
