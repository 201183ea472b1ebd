-- The answers of a search, case by case: over a whole run, and by the numbers that are kept.
-- Assumes nothing.
use mathlib.Core.Path.{◌≡◌, refl, ap}
use mathlib.Core.Bool.{Bool, true, false, cond}
use mathlib.Core.List.{List}
use Prim.Native.Nat.{ℕ, ◌-◌, ◌<◌, ◌≤◌}
use lib.Dec.{ltb}
use lib.ListN.{length}
use Rattle.std.proofs.Common.{Option, Some, None, Result, Ok, Err}
use borrow.Author.Tests.{le-ltb, lt-ltb, eq-eqb, ne_eqb}
use Rattle.pilots.specs.definitions.Pilots.{below, offsets, first_lock}
use Rattle.hunt.specs.definitions.Found.{found_in}
use Rattle.hunt.specs.definitions.Found as found
use Rattle.refusal.specs.declared.Refusal.{Refusal}
use Rattle.refusal.specs.definitions.Refusal.{number_of}
use Rattle.refusal.proofs.Numbers.{answer_injective}
use Rattle.hunt.specs.declared.Hunt.{Hunt}
use Rattle.hunt.specs.definitions.Find.{short_run, find}
use Rattle.hunt.specs.definitions.Pieces.{answer}

module _ (s : List ℕ) where
  pub find_short : length s < 6144 → find s ≡ found.Refused short_run
  unfolding find
  find_short h = rw (lt-ltb (length s) 6144 h) refl

  pub find_long : 6144 ≤ length s → (r : Option ℕ) → r ≡ below (offsets s) (first_lock s) → found_in (Ok r) ≡ find s
  unfolding find
  find_long h r e = rw (e, le-ltb (length s) 6144 h) (go (ltb (first_lock s) (offsets s)))
    where
      go : (b : Bool) → found_in (Ok (cond b (Some (first_lock s)) None)) ≡ cond b (found.At (first_lock s)) found.None
      go true = refl
      go false = refl

  pub find_none : 6144 ≤ length s → offsets s ≤ first_lock s → find s ≡ found.None
  unfolding find
  find_none h n = rw (le-ltb (length s) 6144 h, le-ltb (first_lock s) (offsets s) n) refl

  pub find_at : 6144 ≤ length s → first_lock s < offsets s → find s ≡ found.At (first_lock s)
  unfolding find
  find_at h l = rw (le-ltb (length s) 6144 h, lt-ltb (first_lock s) (offsets s) l) refl

module _ (h : Hunt) where
  pub answer_short : h.taken < 6144 → answer h ≡ found.Refused short_run
  unfolding answer
  answer_short l = rw (lt-ltb h.taken 6144 l) refl

  pub answer_none : 6144 ≤ h.taken → h.found ≡ 0 → answer h ≡ found.None
  unfolding answer
  answer_none l z = rw (le-ltb h.taken 6144 l, eq-eqb h.found 0 z) refl

  pub answer_at : 6144 ≤ h.taken → (h.found ≡ 0 → ⊥) → answer h ≡ found.At (h.taken - 6144)
  unfolding answer
  answer_at l n = rw (le-ltb h.taken 6144 l, ne_eqb h.found 0 n) refl

-- results that say the same are the same
pub same_result : (a b : Result (Option ℕ) Refusal) → found_in a ≡ found_in b → a ≡ b
same_result (Ok (Some o)) (Ok (Some p)) e = let q : o ≡ p = cc in ap (λ (x : ℕ). Ok (Some x)) q
same_result (Ok (Some o)) (Ok None) e = cc
same_result (Ok (Some o)) (Err r) e = cc
same_result (Ok None) (Ok (Some p)) e = cc
same_result (Ok None) (Ok None) e = refl
same_result (Ok None) (Err r) e = cc
same_result (Err q) (Ok (Some p)) e = cc
same_result (Err q) (Ok None) e = cc
same_result (Err q) (Err r) e =
    let n : number_of q ≡ number_of r = cc in
    let f : ◌≡◌ {A = Result Unit Refusal} (Err q) (Err r) = answer_injective n in
    let g : q ≡ r = cc in ap (λ (x : Refusal). Err x) g
