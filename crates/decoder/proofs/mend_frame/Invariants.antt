-- `decoder::mend_frame` meets its contract: the words before word i are mended, and have their flags. Assumes nothing.
use Rattle.std.proofs.Common.{◌*◌}
use Rattle.decoder.proofs.Rows.{Mending}
use Rattle.decoder.proofs.mend_frame.Given as goal

abbrev pub invariant-loop-i : goal.invariant-loop-i
invariant-loop-i l = Mending 384 l.fn.words l.fn.flags l.words l.flags l.i

abbrev pub invariant-loop-group : goal.invariant-loop-group
invariant-loop-group l = Mending 384 l.fn.words l.fn.flags l.words l.flags (8 * l.group)
