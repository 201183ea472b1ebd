-- `bch::fold_words` meets its contract: the words before word i are folded, and none of their upper numbers exceeds what is gathered. Assumes nothing.
use Prim.Native.Nat.{ℕ, ◌*◌, ◌<◌, ◌≤◌}
use lib.ListN.{get_or}
use Rattle.bch.specs.private.Folded.{FoldedBy}
use Rattle.bch.proofs.fold_words.Given as goal

abbrev pub invariant-loop-i : goal.invariant-loop-i
invariant-loop-i g l =
    record {
      folded : FoldedBy (goal.F-post g l.fold) l.i l.words l.out;
      within : (k : ℕ) → k < l.i → get_or l.words (2 * k) 0 ≤ l.uppers;
    }
