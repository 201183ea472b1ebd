-- Each public function's contract fixes its outcome: two outcomes of one call that satisfy its `ensures`, as the source states it, are equal.
-- Assumes nothing.
use mathlib.Core.Path.{◌≡◌, sym, ◌∙◌}
use Rattle.bits.proofs.Fixes.{Fixes}
use Rattle.refusal.proofs.Numbers.{answer_injective}
use Rattle.framing.proofs.send.Kinds as send-kinds
use Rattle.framing.proofs.send.Reads as send-reads
use Rattle.framing.proofs.receive_words.Kinds as words-kinds
use Rattle.framing.proofs.receive_words.Reads as words-reads
use Rattle.framing.proofs.receive.Kinds as receive-kinds
use Rattle.framing.proofs.receive.Reads as receive-reads

-- the answer, and the store and the output at exit
pub send_determined : Fixes 3 send-kinds.ps send-kinds.r send-reads.Post (λ κs s t. (s.1.0.now ≡ t.1.0.now) × (s.1.1.0.now ≡ t.1.1.0.now))
send_determined κs a x y s t p q = (answer_injective (p.number ∙ sym q.number), (p.store ∙ sym q.store, p.output ∙ sym q.output))

-- the answer, and the words and the flags at exit
pub receive_words_determined : Fixes 3 words-kinds.ps words-kinds.r words-reads.Post
    (λ κs s t. (s.1.0.now ≡ t.1.0.now) × (s.1.1.0.now ≡ t.1.1.0.now))
receive_words_determined κs a x y s t p q = (answer_injective (p.number ∙ sym q.number), (p.words ∙ sym q.words, p.flags ∙ sym q.flags))

-- the answer, and the store, the output and the flags at exit
pub receive_determined : Fixes 4 receive-kinds.ps receive-kinds.r receive-reads.Post
    (λ κs s t. (s.1.0.now ≡ t.1.0.now) × (s.1.1.0.now ≡ t.1.1.0.now) × (s.1.1.1.0.now ≡ t.1.1.1.0.now))
receive_determined κs a x y s t p q = (answer_injective (p.number ∙ sym q.number), (p.store ∙ sym q.store, p.output ∙ sym q.output, p.flags ∙ sym q.flags))
