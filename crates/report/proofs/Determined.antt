-- Each public function's contract fixes its outcome: two outcomes of one call that satisfy its `ensures`, as the source states it, are equal.
-- Assumes nothing.
use mathlib.Core.Path.{◌≡◌, sym, ◌∙◌}
use Rattle.bits.proofs.Fixes.{Fixes}
use Rattle.report.proofs.report.Kinds as report-kinds
use Rattle.report.proofs.report.Reads as report-reads

-- the number of bytes, and the buffer at exit
pub report_determined : Fixes 1 report-kinds.ps report-kinds.r report-reads.Post (λ κs s t. s.1.0.now ≡ t.1.0.now)
report_determined κs a x y s t p q = (p.0 ∙ sym q.0, p.1 ∙ sym q.1)
