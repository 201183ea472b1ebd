-- Each public function's contract fixes its outcome: two outcomes of one call that satisfy its `ensures`, as the source states it, are equal.
-- Assumes nothing.
use mathlib.Core.Path.{sym, ◌∙◌}
use Rattle.bits.proofs.Fixes.{Fixes}
use Rattle.pilots.proofs.label_level.Kinds as level-kinds
use Rattle.pilots.proofs.label_level.Reads as level-reads
use Rattle.pilots.proofs.level_label.Kinds as label-kinds
use Rattle.pilots.proofs.level_label.Reads as label-reads
use Rattle.pilots.proofs.pilots.Kinds as pilots-kinds
use Rattle.pilots.proofs.pilots.Reads as pilots-reads
use Rattle.pilots.proofs.locks.Kinds as locks-kinds
use Rattle.pilots.proofs.locks.Reads as locks-reads
use Rattle.pilots.proofs.first_lock.Kinds as first-kinds
use Rattle.pilots.proofs.first_lock.Reads as first_reads
use Rattle.pilots.proofs.locked_column.Kinds as column-kinds
use Rattle.pilots.proofs.locked_column.Reads as column-reads

pub label_level_determined : Fixes 0 level-kinds.ps level-kinds.r level-reads.Post (λ κs s t. Unit)
label_level_determined κs a x y s t p q = (p ∙ sym q, tt)

pub level_label_determined : Fixes 0 label-kinds.ps label-kinds.r label-reads.Post (λ κs s t. Unit)
level_label_determined κs a x y s t p q = (p ∙ sym q, tt)

pub pilots_determined : Fixes 0 pilots-kinds.ps pilots-kinds.r pilots-reads.Post (λ κs s t. Unit)
pilots_determined κs a x y s t p q = (p ∙ sym q, tt)

pub locks_determined : Fixes 1 locks-kinds.ps locks-kinds.r locks-reads.Post (λ κs s t. Unit)
locks_determined κs a x y s t p q = (p ∙ sym q, tt)

pub first_lock_determined : Fixes 1 first-kinds.ps first-kinds.r first_reads.Post (λ κs s t. Unit)
first_lock_determined κs a x y s t p q = (p ∙ sym q, tt)

pub locked_column_determined : Fixes 1 column-kinds.ps column-kinds.r column-reads.Post (λ κs s t. Unit)
locked_column_determined κs a x y s t p q = (p ∙ sym q, tt)
