-- Each public function's contract fixes its outcome: two outcomes of one call that satisfy its `ensures`, as the source states it, are equal.
-- Assumes nothing.
use Rattle.std.proofs.Common.{sym, ◌∙◌}
use Rattle.bits.proofs.Fixes.{Fixes}
use Rattle.refusal.proofs.number.Kinds as number-kinds
use Rattle.refusal.proofs.number.Reads as number-reads
use Rattle.refusal.proofs.U32FromRefusal.from.Kinds as from-kinds
use Rattle.refusal.proofs.U32FromRefusal.from.Reads as from-reads

pub number_determined : Fixes 0 number-kinds.ps number-kinds.r number-reads.Post (λ κs s t. Unit)
number_determined κs a x y s t p q = (p ∙ sym q, tt)

-- `u32::from` of a refusal
pub from_determined : Fixes 0 from-kinds.ps from-kinds.r from-reads.Post (λ κs s t. Unit)
from_determined κs a x y s t p q = (p ∙ sym q, tt)
