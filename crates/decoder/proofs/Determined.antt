-- Each public function's contract fixes its outcome: two outcomes of one call that satisfy its `ensures`, as the source states it, are equal.
-- Assumes nothing.
use mathlib.Core.Path.{◌≡◌, refl, sym, ◌∙◌}
use Rattle.bits.proofs.Fixes.{Fixes}
use Rattle.decoder.proofs.decode.Kinds as decode-kinds
use Rattle.decoder.proofs.decode.Reads as decode-reads
use Rattle.decoder.proofs.flag.Kinds as flag-kinds
use Rattle.decoder.proofs.flag.Reads as flag-reads
use Rattle.decoder.proofs.U8FromMend.from.Kinds as number-kinds
use Rattle.decoder.proofs.U8FromMend.from.Reads as number-reads
use Rattle.decoder.proofs.decode_frame.Kinds as frame-kinds
use Rattle.decoder.proofs.decode_frame.Reads as frame_reads

-- a number or a struct, and no buffer
pub decode_determined : Fixes 0 decode-kinds.ps decode-kinds.r decode-reads.Post (λ κs s t. Unit)
decode_determined κs a x y s t p q = (p ∙ sym q, tt)

pub flag_determined : Fixes 0 flag-kinds.ps flag-kinds.r flag-reads.Post (λ κs s t. Unit)
flag_determined κs a x y s t p q = (p ∙ sym q, tt)

pub mend_number_determined : Fixes 0 number-kinds.ps number-kinds.r number-reads.Post (λ κs s t. Unit)
mend_number_determined κs a x y s t p q = (p ∙ sym q, tt)

-- no result, and the words and the flags at exit
pub decode_frame_determined : Fixes 2 frame-kinds.ps frame-kinds.r frame_reads.Post (λ κs s t. (s.0.now ≡ t.0.now) × (s.1.0.now ≡ t.1.0.now))
decode_frame_determined κs a x y s t p q = (refl, (p.0 ∙ sym q.0, p.1 ∙ sym q.1))
