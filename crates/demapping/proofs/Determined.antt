-- Each public function's contract fixes its outcome: two outcomes of one call that satisfy its `ensures`, as the source states it, are equal.
-- Assumes nothing.
use mathlib.Core.Path.{◌≡◌, refl, sym, ap, ◌∙◌}
use Rattle.std.proofs.Common.{Result, Ok, Err, is_ok, IfErr}
use Rattle.bits.proofs.Fixes.{Fixes}
use Rattle.refusal.specs.declared.Refusal.{Refusal}
use Rattle.refusal.specs.declared.Refusal.TheVariants as refusal
use Rattle.demapping.proofs.words_from_frame.Kinds as words-kinds
use Rattle.demapping.proofs.words_from_frame.Reads as words-reads

-- where both are done, or both are refused for the input, the answers are equal
same_answer : (x y : Result Unit Refusal) → is_ok x ≡ is_ok y → IfErr x (λ r. r ≡ refusal.Input) → IfErr y (λ r. r ≡ refusal.Input) → x ≡ y
same_answer (Ok a) (Ok b) e p q = refl
same_answer (Ok a) (Err s) e p q = cc
same_answer (Err r) (Ok b) e p q = cc
same_answer (Err r) (Err s) e p q = ap Err (p ∙ sym q)

-- what was answered, and the words at exit
pub words_from_frame_determined : Fixes 2 words-kinds.ps words-kinds.r words-reads.Post (λ κs s t. s.1.0.now ≡ t.1.0.now)
words_from_frame_determined κs a x y s t p q =
    let e = p.0.done ∙ sym q.0.done in
    (same_answer x y e p.1 q.1, rw (p.0.words, q.0.words, e))
