-- Each public function's contract fixes its outcome: two outcomes of one call that satisfy its `ensures`, as the source states it, are equal.
-- Assumes nothing.
use mathlib.Core.Path.{◌≡◌, refl, sym, ◌∙◌}
use Rattle.refusal.proofs.Numbers.{answer_injective}
use Rattle.bits.proofs.Fixes.{Fixes}
use Rattle.bench.proofs.Run.step.Kinds as step-kinds
use Rattle.bench.proofs.Run.step.Reads as step-reads
use Rattle.bench.proofs.Run.stop.Kinds as stop-kinds
use Rattle.bench.proofs.Run.stop.Reads as stop-reads
use Rattle.bench.proofs.Run.is_stopped.Kinds as is-stopped-kinds
use Rattle.bench.proofs.Run.is_stopped.Reads as is-stopped-reads
use Rattle.bench.proofs.examine_capture.Kinds as examine-kinds
use Rattle.bench.proofs.examine_capture.Reads as examine-reads
use Rattle.bench.proofs.Run.begun.Kinds as begun-kinds
use Rattle.bench.proofs.Run.begun.Reads as begun-reads
use Rattle.bench.proofs.Run.verdict.Kinds as verdict-kinds
use Rattle.bench.proofs.Run.verdict.Reads as verdict-reads

-- the answer, and the run at exit
pub step_determined : Fixes 2 step-kinds.ps step-kinds.r step-reads.Post (λ κs s t. s.0.now ≡ t.0.now)
step_determined κs a x y s t p q = (answer_injective (p.0 ∙ sym q.0), p.1 ∙ sym q.1)

pub stop_determined : Fixes 1 stop-kinds.ps stop-kinds.r stop-reads.Post (λ κs s t. s.0.now ≡ t.0.now)
stop_determined κs a x y s t p q = (refl, p ∙ sym q)

-- a run, a test, a verdict
pub begun_determined : Fixes 0 begun-kinds.ps begun-kinds.r begun-reads.Post (λ κs s t. Unit)
begun_determined κs a x y s t p q = (p ∙ sym q, tt)

pub is_stopped_determined : Fixes 1 is-stopped-kinds.ps is-stopped-kinds.r is-stopped-reads.Post (λ κs s t. Unit)
is_stopped_determined κs a x y s t p q = (p ∙ sym q, tt)

pub examine_capture_determined : Fixes 1 examine-kinds.ps examine-kinds.r examine-reads.Post (λ κs s t. Unit)
examine_capture_determined κs a x y s t p q = (p ∙ sym q, tt)

pub verdict_determined : Fixes 1 verdict-kinds.ps verdict-kinds.r verdict-reads.Post (λ κs s t. Unit)
verdict_determined κs a x y s t p q = (p ∙ sym q, tt)
