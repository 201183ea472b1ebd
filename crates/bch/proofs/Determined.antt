-- Each public function's contract fixes its outcome: two outcomes of one call that satisfy its `ensures`, as the source states it, are equal.
-- Assumes nothing.
use mathlib.Core.Path.{◌≡◌, refl, sym, ◌∙◌}
use Rattle.bits.proofs.Fixes.{Fixes}
use Rattle.bch.proofs.parity.Kinds as parity-kinds
use Rattle.bch.proofs.parity.Reads as parity-reads
use Rattle.bch.proofs.encode_frame.Kinds as encode-kinds
use Rattle.bch.proofs.encode_frame.Reads as encode-reads
use Rattle.bch.proofs.word_remainder.Kinds as remainder-kinds
use Rattle.bch.proofs.word_remainder.Reads as remainder-reads
use Rattle.bch.proofs.remainders.Kinds as remainders-kinds
use Rattle.bch.proofs.remainders.Reads as remainders-reads

-- a number, and no buffer
pub parity_determined : Fixes 0 parity-kinds.ps parity-kinds.r parity-reads.Post (λ κs s t. Unit)
parity_determined κs a x y s t p q = (p ∙ sym q, tt)

-- no result, and the words at exit
pub encode_frame_determined : Fixes 1 encode-kinds.ps encode-kinds.r encode-reads.Post (λ κs s t. s.0.now ≡ t.0.now)
encode_frame_determined κs a x y s t p q = (refl, p ∙ sym q)

pub word_remainder_determined : Fixes 0 remainder-kinds.ps remainder-kinds.r remainder-reads.Post (λ κs s t. Unit)
word_remainder_determined κs a x y s t p q = (p ∙ sym q, tt)

-- no result, and the words and the remainders at exit
pub remainders_determined : Fixes 2 remainders-kinds.ps remainders-kinds.r remainders-reads.Post
    (λ κs s t. (s.0.now ≡ t.0.now) × (s.1.0.now ≡ t.1.0.now))
remainders_determined κs a x y s t p q = (refl, (p.0 ∙ sym q.0, p.1 ∙ sym q.1))
