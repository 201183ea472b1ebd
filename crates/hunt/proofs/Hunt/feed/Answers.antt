-- `hunt::Hunt::feed` meets its contract, case by case. Assumes nothing.
use Rattle.std.proofs.Common.{◌≡◌, refl, sym, ap, ◌∙◌, ℕ, List, None, rules, arith}
use Rattle.std.proofs.lemmas.Grind.{common_steps}
use Rattle.refusal.specs.definitions.Refusal.{answer_of}
use Rattle.hunt.specs.definitions.Pieces.{piece_taken}
use Rattle.hunt.proofs.Taking.{piece_passed}
use Rattle.hunt.proofs.Feeding.{wrong_kept, found_before, too_many, room, refused, done}
use Rattle.hunt.proofs.Hunt.feed.Goals as goal

pub returns-in_err-kept : goal.returns-in_err-kept
returns-in_err-kept c =
    let h = c.args.self.now in
    let kept = c.args.kept.now in
    let piece = c.args.piece.now in
    let two : answer_of c.from_residual.result ≡ 2 = search rules in
    rw two (refused h kept piece 1 refl (wrong_kept h kept piece (grind (arith, common_steps))))

pub returns-then-self-ne0 : goal.returns-then-self-ne0
returns-then-self-ne0 c =
    let h = c.args.self.now in
    let kept = c.args.kept.now in
    let piece = c.args.piece.now in
    let lent = rw c.in_ok-kept.ensures.ok_part at c.as_mut_array.ensures.cases in
    done h kept piece (found_before h kept piece lent.long (omega arith))
    (ap (λ (k : List ℕ). record { hunt = h; kept = k }) lent.same ∙ sym (piece_passed (record { hunt = h; kept = kept }) piece (omega arith)))

pub returns-in_err-ok_or : goal.returns-in_err-ok_or
returns-in_err-ok_or c =
    let h = c.args.self.now in
    let kept = c.args.kept.now in
    let piece = c.args.piece.now in
    let lent = rw c.in_ok-kept.ensures.ok_part at c.as_mut_array.ensures.cases in
    let none : c.checked_add.result ≡ None = search rules in
    let beyond = rw none at c.checked_add.ensures in
    let many : answer_of c.from_residual-in_err-ok_or.result ≡ 23 = search rules in
    rw many (refused h kept piece 22 lent.same (too_many h kept piece lent.long (omega arith) (omega arith)))

pub returns : goal.returns
returns c =
    let h = c.args.self.now in
    let kept = c.args.kept.now in
    let piece = c.args.piece.now in
    let lent = rw c.in_ok-kept.ensures.ok_part at c.as_mut_array.ensures.cases in
    let within = rw c.in_ok-ok_or.ensures.ok_part at c.checked_add.ensures in
    let none : h.found ≡ 0 = omega arith in
    done h kept piece (room h kept piece lent.long none (omega arith))
    (c.take_piece.ensures ∙ ap (λ (k : List ℕ). piece_taken (record { hunt = h; kept = k }) piece) lent.same)
