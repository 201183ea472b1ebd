-- `lane_words::Third::write` meets its contract: the bytes of the first j numbers are written. Assumes nothing.
use Prim.Native.Nat.{◌+◌, ◌*◌, ◌-◌, ◌/◌}
use Rattle.lane_words.specs.definitions.LaneWords.{word_lanes}
use Rattle.lane_words.specs.private.Thirds.{Written}
use Rattle.lane_words.proofs.Third.write.Given as goal

abbrev pub invariant-loop-j : goal.invariant-loop-j
invariant-loop-j l = Written (word_lanes l.words) (165 * l.self.p + 55 * l.self.t + (8 * l.j - l.j / 7)) l.lanes
