-- `shuffle::rotate_words` meets its contract: the lanes below lane p are there, rotated. Assumes nothing.
use Rattle.shuffle.specs.private.Rotation.{LanesRotated}
use Rattle.shuffle.proofs.rotate_words.Given as goal

abbrev pub invariant-loop-p : goal.invariant-loop-p
invariant-loop-p g l = LanesRotated g.R.Row.holds l.places l.words l.p l.out
