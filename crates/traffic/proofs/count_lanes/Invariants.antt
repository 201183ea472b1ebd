-- The loop of `traffic::count_lanes`: the counts of the lanes before lane p are written. Assumes nothing.
use Rattle.bits.specs.definitions.Bits.{count}
use Rattle.bits.proofs.Filling.{Filling}
use Rattle.traffic.specs.private.Counting.{differs}
use Rattle.traffic.proofs.count_lanes.Given as goal

abbrev pub invariant-loop-p : goal.invariant-loop-p
invariant-loop-p l = Filling (λ q. count (differs l.fill l.fn.lanes l.fn.sent q) 1320) 32 l.initial.wrong l.wrong l.p
