-- `decoder::mend_frame` meets its contract: of eight words each is mended, or all stay as they are. Assumes nothing.
use Rattle.std.proofs.Common.{◌≡◌, ℕ, ◌+◌, ◌*◌, ◌<◌, get_or, length, length-take, length-drop, le_refl, subst, sym, ◌∙◌, arith, rules}
use Rattle.decoder.proofs.Rows.{Mending, mending_start, mending_rest, mending_step, mending_clean, mending_done, part_at, zeros_at}
use Rattle.decoder.proofs.mend_frame.Goals as goal
use Rattle.decoder.proofs.mend_frame.Goals.{then-not-are_clean+else-loop-i-test, else-not-are_clean}

pub loop-group-init : goal.loop-group-init
loop-group-init c = mending_start (search rules) (search rules)

pub mend_word-requires-clause-has_remainder : goal.mend_word-requires-clause-has_remainder
mend_word-requires-clause-has_remainder c = mending_rest c.loop-i.invariant c.requires.has_remainders (omega arith)

pub loop-i-preserved : goal.loop-i-preserved
loop-i-preserved c = mending_step c.loop-i.invariant c.mend_word.ensures (omega arith)

pub loop-group-preserved : goal.loop-group-preserved
loop-group-preserved c =
    elim c.if-not-are_clean.branch [
      | then-not-are_clean+else-loop-i-test w ↦
          let e : w.loop-i.i ≡ 8 * (c.loop-group.group + 1) = omega (arith, w.loop-i.auto.i-end) in
          rw (w.words-is, w.flags-is) (subst (Mending 384 _ _ _ _) e w.loop-i.invariant)
      | else-not-are_clean w ↦
          let from : ℕ = 8 * c.loop-group.group in
          let e : from + 8 ≡ 8 * (c.loop-group.group + 1) = omega arith in
          let long : length c.args.rest.now ≡ 384 = search rules in
          let clean : (j : ℕ) → j < 8 → get_or c.args.rest.now (from + j) 0 ≡ 0 =
          λ j h.
          sym (part_at c.args.rest.now from (from + 8) j (omega arith))
          ∙ c.are_clean-in-loop-group.ensures.0 (search rules) j (simp (length-take, length-drop) (omega (arith, long))) in
          rw (w.words-is, w.flags-is)
          (subst (Mending 384 _ _ _ _) e
          (mending_clean c.loop-group.invariant c.requires.has_remainders (search rules) (zeros_at 384 c.requires.clear) 8 (omega arith) clean))
    ]

pub returns-then-are_clean : goal.returns-then-are_clean
returns-then-are_clean c =
    let start = mending_start (search rules) (search rules) in
    let long : length c.args.rest.now ≡ 384 = search rules in
    let clean : (j : ℕ) → j < 384 → get_or c.args.rest.now (0 + j) 0 ≡ 0 =
    λ j h. let e : 0 + j ≡ j = omega arith in rw e (c.are_clean.ensures.0 (search rules) j (omega arith)) in
    mending_done
    (mending_clean start c.requires.has_remainders (search rules) (zeros_at 384 c.requires.clear) 384 (le_refl 384) clean)
    (le_refl 384)
