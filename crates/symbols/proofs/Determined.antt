-- Each public function's contract fixes its outcome: two outcomes of one call that satisfy its `ensures`, as the source states it, are equal.
-- Assumes nothing.
use mathlib.Core.Path.{◌≡◌, refl, sym, ◌∙◌}
use Rattle.bits.proofs.Fixes.{Fixes}
use Rattle.symbols.proofs.turned.Kinds as turned-kinds
use Rattle.symbols.proofs.turned.Reads as turned-reads
use Rattle.symbols.proofs.tributary.Kinds as tributary-kinds
use Rattle.symbols.proofs.tributary.Reads as tributary-reads
use Rattle.symbols.proofs.put_dibit.Kinds as dibit-kinds
use Rattle.symbols.proofs.put_dibit.Reads as dibit-reads
use Rattle.symbols.proofs.frame_from_words.Kinds as frame-kinds
use Rattle.symbols.proofs.frame_from_words.Reads as frame_reads

pub turned_determined : Fixes 0 turned-kinds.ps turned-kinds.r turned-reads.Post (λ κs s t. Unit)
turned_determined κs a x y s t p q = (p ∙ sym q, tt)

pub tributary_determined : Fixes 0 tributary-kinds.ps tributary-kinds.r tributary-reads.Post (λ κs s t. Unit)
tributary_determined κs a x y s t p q = (p ∙ sym q, tt)

pub put_dibit_determined : Fixes 0 dibit-kinds.ps dibit-kinds.r dibit-reads.Post (λ κs s t. Unit)
put_dibit_determined κs a x y s t p q = (p ∙ sym q, tt)

-- no result, and the frame at exit
pub frame_from_words_determined : Fixes 2 frame-kinds.ps frame-kinds.r frame_reads.Post (λ κs s t. s.1.0.now ≡ t.1.0.now)
frame_from_words_determined κs a x y s t p q = (refl, p ∙ sym q)
