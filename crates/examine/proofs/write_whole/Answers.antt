-- `examine::write_whole` meets its contract: what is gone from the rest was written. Assumes nothing.
use Rattle.std.proofs.Common.{◌≡◌, ℕ, ◌-◌, List, ◌++◌, length, take, drop, sym, ap, ◌∙◌, Bor, append_assoc, take-append-drop}
use Rattle.std.proofs.lemmas.List.{take_rest}
use Rattle.std.proofs.KnownBytes.{Appends-trans, Appends-kept}
use Rattle.examine.proofs.write_whole.Goals.{in-Ok, in-Err}
use Rattle.examine.proofs.write_whole.Goals as goal

-- n bytes of the rest are gone
moved : (all done rest : List ℕ) (n : ℕ) → all ≡ done ++ rest → all ≡ (done ++ take n rest) ++ take (length rest - n) (drop n rest)
moved all done rest n e =
    e ∙ ap (λ (l : List ℕ). done ++ l) (sym (take-append-drop n rest)) ∙ sym (append_assoc done (take n rest) (drop n rest))
    ∙ ap (λ (l : List ℕ). (done ++ take n rest) ++ l) (sym (take_rest rest n))

pub loop-preserved : goal.loop-preserved
loop-preserved g c =
    let (done, split, appended) = c.loop.invariant in
    let rest = c.loop.rest.now in
    elim c.match-write.branch [
      | in-Ok w ↦ (
        done ++ take w.in-Ok.n rest,
        moved _ done rest w.in-Ok.n split ∙ ap (λ (l : List ℕ). (done ++ take w.in-Ok.n rest) ++ l) (sym (ap (λ (b : Bor (List ℕ)). b.now) w.rest-is)),
        Appends-trans _ _ _ _ _ appended w.in-Ok.ensures.bytes,
      )
      | in-Err w ↦ (
        done,
        split ∙ ap (λ (l : List ℕ). done ++ l) (sym (ap (λ (b : Bor (List ℕ)). b.now) w.rest-is)),
        Appends-kept _ _ _ _ appended w.in-Err.ensures.bytes,
      )
    ]
