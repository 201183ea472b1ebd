-- The number that a call answers to a piece, case by case, and what it leaves.
-- Assumes nothing.
use mathlib.Core.Path.{◌≡◌, refl, sym, ap, ◌∙◌}
use mathlib.Core.Bool.{cond, not, ◌&&◌}
use mathlib.Core.List.{List}
use Prim.Native.Nat.{ℕ, suc, ◌+◌, ◌^◌, ◌<◌, ◌≤◌}
use lib.Dec.{eqb, ltb}
use lib.ListN.{length}
use borrow.Author.Tests.{le-ltb, lt-ltb, eq-eqb, ne_eqb}
use Rattle.bits.proofs.Calls.{passed, failed, left, written}
use Rattle.hunt.specs.declared.Hunt.{Hunt}
use Rattle.hunt.specs.definitions.Pieces.{piece_taken, feed_number, Feeds}

module _ (h : Hunt) (kept piece : List ℕ) where
  -- what comes behind the test of a length
  abbrev counted : ℕ
  counted = cond (eqb h.found 0 && not (ltb (h.taken + length piece) (2 ^ 64))) 23 0

  pub wrong_kept : (length kept ≡ 6144 → ⊥) → feed_number h kept piece ≡ 2
  unfolding feed_number
  wrong_kept n = failed 6144 kept 2 counted n

  pub found_before : length kept ≡ 6144 → (h.found ≡ 0 → ⊥) → feed_number h kept piece ≡ 0
  unfolding feed_number
  found_before e n = passed 6144 kept 2 counted e ∙ rw (ne_eqb h.found 0 n) refl

  pub too_many : length kept ≡ 6144 → h.found ≡ 0 → 2 ^ 64 ≤ h.taken + length piece → feed_number h kept piece ≡ 23
  unfolding feed_number
  too_many e z l = passed 6144 kept 2 counted e ∙ rw (eq-eqb h.found 0 z, le-ltb (h.taken + length piece) (2 ^ 64) l) refl

  pub room : length kept ≡ 6144 → h.found ≡ 0 → h.taken + length piece < 2 ^ 64 → feed_number h kept piece ≡ 0
  unfolding feed_number
  room e z l = passed 6144 kept 2 counted e ∙ rw (eq-eqb h.found 0 z, lt-ltb (h.taken + length piece) (2 ^ 64) l) refl

  -- a refused call leaves everything
  pub refused : (k : ℕ) {kept' : List ℕ} → kept' ≡ kept → feed_number h kept piece ≡ suc k → Feeds h kept piece (suc k) h kept'
  refused k same e =
      record { number = sym e; hunt = sym (left (feed_number h kept piece) k _ h e); symbols = same ∙ sym (left (feed_number h kept piece) k _ kept e) }

  -- a call that is done leaves what the piece comes to
  pub done : {h' : Hunt} {kept' : List ℕ} → feed_number h kept piece ≡ 0
      → record { hunt = h'; kept = kept' } ≡ piece_taken (record { hunt = h; kept = kept }) piece → Feeds h kept piece 0 h' kept'
  done e t =
      record {
        number = sym e;
        hunt = ap (λ s. s.hunt) t ∙ sym (written (feed_number h kept piece) _ h e);
        symbols = ap (λ s. s.kept) t ∙ sym (written (feed_number h kept piece) _ kept e);
      }
