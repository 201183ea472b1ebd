-- Each public function's contract fixes its outcome: two outcomes of one call that satisfy its `ensures`, as the source states it, are equal.
-- Assumes nothing.
use mathlib.Core.Path.{◌≡◌, sym, ◌∙◌}
use Rattle.bits.proofs.Fixes.{Fixes}
use Rattle.refusal.proofs.Numbers.{answer_injective}
use Rattle.hunt.proofs.Finding.{same_result}
use Rattle.hunt.proofs.find.Kinds as find-kinds
use Rattle.hunt.proofs.find.Reads as find-reads
use Rattle.hunt.proofs.Hunt.opened.Kinds as opened-kinds
use Rattle.hunt.proofs.Hunt.opened.Reads as opened-reads
use Rattle.hunt.proofs.Hunt.answer.Kinds as answer-kinds
use Rattle.hunt.proofs.Hunt.answer.Reads as answer-reads
use Rattle.hunt.proofs.Hunt.feed.Kinds as feed-kinds
use Rattle.hunt.proofs.Hunt.feed.Reads as feed-reads

pub find_determined : Fixes 1 find-kinds.ps find-kinds.r find-reads.Post (λ κs s t. Unit)
find_determined κs a x y s t p q = (same_result x y (p ∙ sym q), tt)

pub opened_determined : Fixes 0 opened-kinds.ps opened-kinds.r opened-reads.Post (λ κs s t. Unit)
opened_determined κs a x y s t p q = (p ∙ sym q, tt)

pub answer_determined : Fixes 1 answer-kinds.ps answer-kinds.r answer-reads.Post (λ κs s t. Unit)
answer_determined κs a x y s t p q = (same_result x y (p ∙ sym q), tt)

-- the answer, and the search's numbers and the symbols kept at exit
pub feed_determined : Fixes 3 feed-kinds.ps feed-kinds.r feed-reads.Post (λ κs s t. (s.0.now ≡ t.0.now) × (s.1.0.now ≡ t.1.0.now))
feed_determined κs a x y s t p q = (answer_injective (p.number ∙ sym q.number), (p.hunt ∙ sym q.hunt, p.symbols ∙ sym q.symbols))
