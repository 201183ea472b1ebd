-- `bench::examine_capture` meets its contract. The invariant: from here on the walk comes to what the whole examination comes to.
-- Assumes nothing.
use Prim.Native.Nat.{◌-◌}
use lib.ListN.{length}
use Rattle.bench.proofs.Walk.{Ahead}
use Rattle.bench.proofs.examine_capture.Given as goal

abbrev pub invariant-loop-place : goal.invariant-loop-place
invariant-loop-place l = Ahead l.capture l.place l.run

abbrev pub decreases-loop-place : goal.decreases-loop-place
decreases-loop-place l = length l.capture - l.place
