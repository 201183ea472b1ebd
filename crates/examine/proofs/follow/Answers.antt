-- `examine::follow` meets its contract: what the pieces come to, and what the reader gave. Assumes nothing.
use Rattle.std.proofs.Common.{rules}
use Rattle.examine.proofs.Buffer.{none_yet}
use Rattle.examine.proofs.SoFar.{reading_starts, reading_ends, reading_came, reading_whole, reading_goes, reading_less, stays_stopped}
use Rattle.examine.proofs.follow.Goals as goal

pub loop-buffer-init : goal.loop-buffer-init
loop-buffer-init g c = reading_starts _ _ c.begun-run.ensures

-- a piece that came, and the step over it
pub loop-buffer-smaller : goal.loop-buffer-smaller
loop-buffer-smaller g c =
    reading_less _ _ _ c.loop-buffer.invariant (search rules) c.in-Ok.piece.now c.in-Ok.len_at_least c.in-Ok.ensures.within _ c.step.ensures.changed

pub loop-buffer-preserved : goal.loop-buffer-preserved
loop-buffer-preserved g c =
    reading_goes _ _ _ c.loop-buffer.invariant (search rules) c.in-Ok.piece.now c.in-Ok.len_at_least c.in-Ok.ensures.within _ c.step.ensures.changed
    c.step.ensures.bytes _ c.in-Ok.ensures.given c.in-Ok.ensures.ended

-- a read that fails
pub returns-in-Err-clause-ended : goal.returns-in-Err-clause-ended
returns-in-Err-clause-ended g c = stays_stopped c.loop-buffer.run _ c.stop.ensures _

-- no piece: the end of the input
pub returns-in-Ok-empty-clause-came : goal.returns-in-Ok-empty-clause-came
returns-in-Ok-empty-clause-came g c =
    reading_came _ _ _ (reading_ends _ _ _ c.loop-buffer.invariant _ c.in-Ok-empty.field-0.now c.in-Ok-empty.ensures.given c.in-Ok-empty.len_below)

pub returns-in-Ok-empty-clause-ended : goal.returns-in-Ok-empty-clause-ended
returns-in-Ok-empty-clause-ended g c = λ _. c.in-Ok-empty.ensures.ended (none_yet _ c.in-Ok-empty.len_below)

pub returns-in-Ok-empty-clause-whole : goal.returns-in-Ok-empty-clause-whole
returns-in-Ok-empty-clause-whole g c = λ _.
    reading_whole _ _ _ (reading_ends _ _ _ c.loop-buffer.invariant _ c.in-Ok-empty.field-0.now c.in-Ok-empty.ensures.given c.in-Ok-empty.len_below)
    (c.in-Ok-empty.ensures.ended (none_yet _ c.in-Ok-empty.len_below))
