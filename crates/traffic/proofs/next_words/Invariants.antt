-- The loop of `traffic::next_words`: each word by the two before it. Assumes nothing.
use Rattle.traffic.specs.private.Stream.{Grows}
use Rattle.traffic.proofs.next_words.Given as goal

abbrev pub invariant-loop-n : goal.invariant-loop-n
invariant-loop-n l = Grows 2 l.n l.initial.words l.words
