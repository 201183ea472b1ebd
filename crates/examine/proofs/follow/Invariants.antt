-- `examine::follow` meets its contract: the run is what the bytes that came come to, and each record leaves less of what a run can take. Assumes nothing.
use Rattle.bench.proofs.Remaining.{remaining_of}
use Rattle.examine.proofs.SoFar.{SoFar}
use Rattle.examine.proofs.follow.Given as goal

abbrev pub invariant-loop-buffer : goal.invariant-loop-buffer
invariant-loop-buffer g l = SoFar (g.R.Read.remaining l.initial.reader) (g.R.Read.remaining l.reader) l.run

abbrev pub decreases-loop-buffer : goal.decreases-loop-buffer
decreases-loop-buffer g l = remaining_of l.run
