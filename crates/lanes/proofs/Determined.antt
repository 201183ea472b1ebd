-- Each public function's contract fixes its outcome: two outcomes of one call that satisfy its `ensures`, as the source states it, are equal.
-- Assumes nothing.
use mathlib.Core.Path.{◌≡◌, refl, sym, ◌∙◌}
use Rattle.bits.proofs.Fixes.{Fixes}
use Rattle.refusal.proofs.Numbers.{answer_injective}
use Rattle.lanes.proofs.interleave.Kinds as interleave-kinds
use Rattle.lanes.proofs.interleave.Reads as interleave-reads
use Rattle.lanes.proofs.deinterleave.Kinds as deinterleave-kinds
use Rattle.lanes.proofs.deinterleave.Reads as deinterleave-reads

-- no result, and the store and the frame at exit
pub interleave_determined : Fixes 3 interleave-kinds.ps interleave-kinds.r interleave-reads.Post
    (λ κs s t. (s.1.1.0.now ≡ t.1.1.0.now) × (s.1.1.1.0.now ≡ t.1.1.1.0.now))
interleave_determined κs a x y s t p q = (refl, (p.1 ∙ sym q.1, p.0 ∙ sym q.0))

-- the answer, and the store and the lanes at exit
pub deinterleave_determined : Fixes 3 deinterleave-kinds.ps deinterleave-kinds.r deinterleave-reads.Post
    (λ κs s t. (s.1.1.0.now ≡ t.1.1.0.now) × (s.1.1.1.0.now ≡ t.1.1.1.0.now))
deinterleave_determined κs a x y s t p q =
    let e = p.1.done ∙ sym q.1.done in
    (answer_injective (p.0 ∙ sym q.0), (rw (p.1.store, q.1.store, e), rw (p.1.output, q.1.output, e)))
