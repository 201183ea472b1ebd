-- `lane_words::to_lanes` meets its contract: the bytes of the lanes, and of the thirds, before lane p and its third t are written. Assumes nothing.
use Prim.Native.Nat.{◌+◌, ◌*◌}
use Rattle.lane_words.specs.definitions.LaneWords.{word_lanes}
use Rattle.lane_words.specs.private.Thirds.{Written}
use Rattle.lane_words.proofs.to_lanes.Given as goal

abbrev pub invariant-loop-p : goal.invariant-loop-p
invariant-loop-p l = Written (word_lanes l.words) (165 * l.p) l.lanes

abbrev pub invariant-loop-t : goal.invariant-loop-t
invariant-loop-t l = Written (word_lanes l.words) (165 * l.p + 55 * l.t) l.lanes
