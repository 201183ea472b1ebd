-- Each public function's contract fixes its outcome: two outcomes of one call that satisfy its `ensures`, as the source states it, are equal.
-- Assumes nothing.
use mathlib.Core.Path.{◌≡◌, refl, sym, ◌∙◌}
use Rattle.bits.proofs.Fixes.{Fixes}
use Rattle.lane_words.proofs.to_words.Kinds as words-kinds
use Rattle.lane_words.proofs.to_words.Reads as words-reads
use Rattle.lane_words.proofs.to_lanes.Kinds as lanes-kinds
use Rattle.lane_words.proofs.to_lanes.Reads as lanes-reads

-- no result, and the words at exit
pub to_words_determined : Fixes 2 words-kinds.ps words-kinds.r words-reads.Post (λ κs s t. s.1.0.now ≡ t.1.0.now)
to_words_determined κs a x y s t p q = (refl, p ∙ sym q)

-- no result, and the lanes at exit
pub to_lanes_determined : Fixes 2 lanes-kinds.ps lanes-kinds.r lanes-reads.Post (λ κs s t. s.1.0.now ≡ t.1.0.now)
to_lanes_determined κs a x y s t p q = (refl, p ∙ sym q)
