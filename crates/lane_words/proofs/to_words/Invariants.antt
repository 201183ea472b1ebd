-- `lane_words::to_words` meets its contract: the words of the lanes, and of the thirds, before lane p and its third t are placed. Assumes nothing.
use Prim.Native.Nat.{◌+◌, ◌*◌}
use Rattle.lane_words.specs.private.Thirds.{Placed}
use Rattle.lane_words.proofs.to_words.Given as goal

abbrev pub invariant-loop-p : goal.invariant-loop-p
invariant-loop-p l = Placed l.lanes (12 * l.p) l.words

abbrev pub invariant-loop-t : goal.invariant-loop-t
invariant-loop-t l = Placed l.lanes (12 * l.p + 4 * l.t) l.words
