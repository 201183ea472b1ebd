-- Each public function's contract fixes its outcome: two outcomes of one call that satisfy its `ensures`, as the source states it, are equal.
-- Assumes nothing.
use mathlib.Core.Path.{◌≡◌, sym, ◌∙◌}
use Rattle.bits.proofs.Fixes.{Fixes}
use Rattle.refusal.proofs.Numbers.{answer_injective}
use Rattle.traffic.proofs.state_after.Kinds as state-kinds
use Rattle.traffic.proofs.state_after.Reads as state-reads
use Rattle.traffic.proofs.next_frame.Kinds as next-kinds
use Rattle.traffic.proofs.next_frame.Reads as next-reads
use Rattle.traffic.proofs.frame.Kinds as frame-kinds
use Rattle.traffic.proofs.frame.Reads as frame_reads
use Rattle.traffic.proofs.check.Kinds as check-kinds
use Rattle.traffic.proofs.check.Reads as check-reads

pub state_after_determined : Fixes 0 state-kinds.ps state-kinds.r state-reads.Post (λ κs s t. Unit)
state_after_determined κs a x y s t p q = (p ∙ sym q, tt)

-- the number, and the state and the output at exit
pub next_frame_determined : Fixes 2 next-kinds.ps next-kinds.r next-reads.Post (λ κs s t. (s.0.now ≡ t.0.now) × (s.1.0.now ≡ t.1.0.now))
next_frame_determined κs a x y s t p q = (answer_injective (p.number ∙ sym q.number), (p.state ∙ sym q.state, p.output ∙ sym q.output))

-- the number, and the output at exit
pub frame_determined : Fixes 1 frame-kinds.ps frame-kinds.r frame_reads.Post (λ κs s t. s.1.0.now ≡ t.1.0.now)
frame_determined κs a x y s t p q = (answer_injective (p.number ∙ sym q.number), p.output ∙ sym q.output)

-- the number, and the counts at exit
pub check_determined : Fixes 2 check-kinds.ps check-kinds.r check-reads.Post (λ κs s t. s.1.1.0.now ≡ t.1.1.0.now)
check_determined κs a x y s t p q = (answer_injective (p.number ∙ sym q.number), p.counts ∙ sym q.counts)
