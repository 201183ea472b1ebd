-- Each public function's contract fixes its outcome: two outcomes of one call that satisfy its `ensures`, as the source states it, are equal.
-- Assumes nothing.
use mathlib.Core.Path.{◌≡◌, refl, sym, ◌∙◌}
use Rattle.bits.proofs.Fixes.{Fixes}
use Rattle.bits.proofs.Joins.{put_eight_unique}
use Rattle.bits.proofs.load.Kinds as load-kinds
use Rattle.bits.proofs.load.Reads as load-reads
use Rattle.bits.proofs.put.Kinds as put-kinds
use Rattle.bits.proofs.put.Reads as put_reads

pub load_determined : Fixes 1 load-kinds.ps load-kinds.r load-reads.Post (λ κs s t. Unit)
load_determined κs a x y s t p q = (p ∙ sym q, tt)

-- no result, and the bytes at exit
pub put_determined : Fixes 1 put-kinds.ps put-kinds.r put_reads.Post (λ κs s t. s.0.now ≡ t.0.now)
put_determined κs a x y s t p q = (refl, put_eight_unique p q)
