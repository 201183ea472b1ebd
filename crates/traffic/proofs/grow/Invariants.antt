-- The loop of `traffic::grow`: each word by those 28 D and 31 D before it. Assumes nothing.
use Rattle.traffic.specs.private.Stream.{Grows}
use Rattle.traffic.proofs.grow.Given as goal

abbrev pub invariant-loop-n : goal.invariant-loop-n
invariant-loop-n g l = Grows l.from l.n l.initial.words l.words
