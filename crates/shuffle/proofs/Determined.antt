-- Each public function's contract fixes its outcome: two outcomes of one call that satisfy its `ensures`, as the source states it, are equal.
-- Assumes nothing.
use mathlib.Core.Path.{◌≡◌, refl, sym, ◌∙◌}
use Rattle.bits.proofs.Fixes.{Fixes}
use Rattle.shuffle.proofs.shuffle_words.Kinds as shuffle-kinds
use Rattle.shuffle.proofs.shuffle_words.Reads as shuffle-reads
use Rattle.shuffle.proofs.unshuffle_words.Kinds as unshuffle-kinds
use Rattle.shuffle.proofs.unshuffle_words.Reads as unshuffle-reads

-- no result, and the words at exit
pub shuffle_words_determined : Fixes 2 shuffle-kinds.ps shuffle-kinds.r shuffle-reads.Post (λ κs s t. s.1.0.now ≡ t.1.0.now)
shuffle_words_determined κs a x y s t p q = (refl, p ∙ sym q)

pub unshuffle_words_determined : Fixes 2 unshuffle-kinds.ps unshuffle-kinds.r unshuffle-reads.Post (λ κs s t. s.1.0.now ≡ t.1.0.now)
unshuffle_words_determined κs a x y s t p q = (refl, p ∙ sym q)
