-- The answers of the whole search, exactly: an offset, none, or too short a run.
-- Assumes nothing.
use mathlib.Core.Path.{◌≡◌, sym, ap, ◌∙◌, subst}
use mathlib.Core.Bool.{true, false, false≢true}
use mathlib.Core.Logic.{◌↔◌}
use mathlib.Core.List.{List}
use Prim.Native.Nat.{ℕ, ◌+◌, ◌-◌, ◌<◌, ◌≤◌}
use native.Mathlib.Decide.{ℕ_discrete, dec_lt}
use native.Mathlib.Omega.{arith}
use lib.ListN.{length}
use Rattle.bits.proofs.Least.{least_passes, least_fails}
use Rattle.pilots.specs.definitions.Pilots.{frame_symbols, locks, offsets, first_lock}
use Rattle.hunt.specs.definitions.Found.{Found}
use Rattle.hunt.specs.definitions.Found as found
use Rattle.hunt.specs.declared.Hunt.{Hunt}
use Rattle.hunt.specs.definitions.Pieces.{answer}
use Rattle.hunt.specs.definitions.Find.{short_run, find, Starts}
use Rattle.hunt.specs.statements.Hunt.{FoundExactly, NoneExactly, ShortExactly, NoOther, AnswerExactly}
use Rattle.hunt.proofs.Finding.{find_short, find_none, find_at, answer_short, answer_none, answer_at}

-- ---- the three answers are told apart
-- what an answer is: which of the three, and its number
unfoldable kind : Found → ℕ
kind (found.Refused r) = 0
kind found.None = 1
kind (found.At o) = 2

unfoldable figure : Found → ℕ
figure (found.Refused r) = r
figure found.None = 0
figure (found.At o) = o

refused_none : {A : Type 0} (r : ℕ) → found.Refused r ≡ found.None → A
unfolding kind
refused_none r e = absurd (let n : 0 ≡ 1 = ap kind e in omega arith)

refused_at : {A : Type 0} (r o : ℕ) → found.Refused r ≡ found.At o → A
unfolding kind
refused_at r o e = absurd (let n : 0 ≡ 2 = ap kind e in omega arith)

none_at : {A : Type 0} (o : ℕ) → found.None ≡ found.At o → A
unfolding kind
none_at o e = absurd (let n : 1 ≡ 2 = ap kind e in omega arith)

refused_refused : (r q : ℕ) → found.Refused r ≡ found.Refused q → r ≡ q
unfolding figure
refused_refused r q e = ap figure e

at_at : (o p : ℕ) → found.At o ≡ found.At p → o ≡ p
unfolding figure
at_at o p e = ap figure e

module _ (s : List ℕ) where
  -- every run has one of them, with what it says
  data Said : Type 0 where
    short : length s < frame_symbols → find s ≡ found.Refused short_run → Said
    none : frame_symbols ≤ length s → ((o : ℕ) → o + frame_symbols ≤ length s → locks s o ≡ false) → find s ≡ found.None → Said
    at : (o : ℕ) → Starts s o → find s ≡ found.At o → Said

  said : Said
  unfolding first_lock
  said = go (dec_lt (length s) frame_symbols) (dec_lt (first_lock s) (offsets s))
    where
      go : Dec (length s < frame_symbols) → Dec (first_lock s < offsets s) → Said
      go (yes h) d = short h (find_short s h)
      go (no h) (yes l) =
          at (first_lock s)
          (record {
            fits = omega arith;
            locked = least_passes (locks s) (offsets s) l;
            first = λ p b. let before : p < first_lock s = omega arith in least_fails (locks s) (offsets s) p before;
          })
          (find_at s (omega arith) l)
      go (no h) (no l) =
          none (omega arith) (λ o f. least_fails (locks s) (offsets s) o (omega arith)) (find_none s (omega arith) (omega arith))

-- ---- each answer, exactly
-- a run does not both lock and not lock
never : {A : Type 0} (s : List ℕ) (o : ℕ) → locks s o ≡ false → locks s o ≡ true → A
never s o n y = absurd (false≢true (sym n ∙ y))

-- there is one first start
pub one_start : (s : List ℕ) (o p : ℕ) → Starts s o → Starts s p → o ≡ p
one_start s o p a b = go (dec_lt o p) (dec_lt p o)
  where
    go : Dec (o < p) → Dec (p < o) → o ≡ p
    go (yes l) d = never s o (b.first o l) a.locked
    go (no n) (yes l) = never s p (a.first p l) b.locked
    go (no n) (no m) = omega arith

pub found_exactly : FoundExactly
found_exactly s o = (there, back)
  where
    there : find s ≡ found.At o → Starts s o
    there e = go (said s)
      where
        go : Said s → Starts s o
        go (short h f) = refused_at short_run o (sym f ∙ e)
        go (none h n f) = none_at o (sym f ∙ e)
        go (at p S f) = subst (Starts s) (at_at p o (sym f ∙ e)) S

    back : Starts s o → find s ≡ found.At o
    back S = go (said s)
      where
        go : Said s → find s ≡ found.At o
        go (short h f) = let l = S.fits in absurd (omega arith)
        go (none h n f) = never s o (n o S.fits) S.locked
        go (at p T f) = f ∙ ap found.At (one_start s p o T S)

pub none_exactly : NoneExactly
none_exactly s = (there, back)
  where
    there : find s ≡ found.None → (frame_symbols ≤ length s) × ((o : ℕ) → o + frame_symbols ≤ length s → locks s o ≡ false)
    there e = go (said s)
      where
        go : Said s → (frame_symbols ≤ length s) × ((o : ℕ) → o + frame_symbols ≤ length s → locks s o ≡ false)
        go (short h f) = refused_none short_run (sym f ∙ e)
        go (none h n f) = (h, n)
        go (at p S f) = none_at p (sym e ∙ f)

    back : (frame_symbols ≤ length s) × ((o : ℕ) → o + frame_symbols ≤ length s → locks s o ≡ false) → find s ≡ found.None
    back q = go (said s)
      where
        go : Said s → find s ≡ found.None
        go (short h f) = let l = q.0 in absurd (omega arith)
        go (none h n f) = f
        go (at p S f) = never s p (q.1 p S.fits) S.locked

pub short_exactly : ShortExactly
short_exactly s = (there, find_short s)
  where
    there : find s ≡ found.Refused short_run → length s < frame_symbols
    there e = go (said s)
      where
        go : Said s → length s < frame_symbols
        go (short h f) = h
        go (none h n f) = refused_none short_run (sym e ∙ f)
        go (at p S f) = refused_at short_run p (sym e ∙ f)

pub no_other : NoOther
no_other s r e = go (said s)
  where
    go : Said s → r ≡ short_run
    go (short h f) = refused_refused r short_run (sym e ∙ f)
    go (none h n f) = refused_none r (sym e ∙ f)
    go (at p S f) = refused_at r p (sym e ∙ f)

-- ---- and by the numbers that are kept
module _ (h : Hunt) where
  data Answered : Type 0 where
    few : h.taken < 6144 → answer h ≡ found.Refused short_run → Answered
    unfound : 6144 ≤ h.taken → h.found ≡ 0 → answer h ≡ found.None → Answered
    start : 6144 ≤ h.taken → (h.found ≡ 0 → ⊥) → answer h ≡ found.At (h.taken - 6144) → Answered

  answered : Answered
  answered = go (dec_lt h.taken 6144) (ℕ_discrete h.found 0)
    where
      go : Dec (h.taken < 6144) → Dec (h.found ≡ 0) → Answered
      go (yes l) d = few l (answer_short h l)
      go (no l) (yes z) = unfound (omega arith) z (answer_none h (omega arith) z)
      go (no l) (no z) = start (omega arith) z (answer_at h (omega arith) z)

pub answer_exactly : AnswerExactly
answer_exactly h = of (answered h)
  where
    of : Answered h → ((answer h ≡ found.Refused short_run) ↔ (h.taken < 6144)) × ((answer h ≡ found.None) ↔ ((6144 ≤ h.taken) × (h.found ≡ 0)))
        × ((o : ℕ) → (answer h ≡ found.At o) ↔ ((h.taken ≡ o + 6144) × (h.found ≡ 0 → ⊥)))
    of (few l e) = (
      ((λ _. l), λ _. e),
      ((λ q. refused_none short_run (sym e ∙ q)), λ q. let m = q.0 in absurd (omega arith)),
      λ o. ((λ q. refused_at short_run o (sym e ∙ q)), λ q. let m = q.0 in absurd (omega arith)),
    )
    of (unfound l z e) = (
      ((λ q. refused_none short_run (sym q ∙ e)), λ q. absurd (omega arith)),
      ((λ _. (l, z)), λ _. e),
      λ o. ((λ q. none_at o (sym e ∙ q)), λ q. absurd (q.1 z)),
    )
    of (start l n e) = (
      ((λ q. refused_at short_run (h.taken - 6144) (sym q ∙ e)), λ q. absurd (omega arith)),
      ((λ q. none_at (h.taken - 6144) (sym q ∙ e)), λ q. absurd (n q.1)),
      λ o. (
        (λ q. let m = at_at (h.taken - 6144) o (sym e ∙ q) in (omega arith, n)),
        λ q. let k = q.0 in let m : h.taken - 6144 ≡ o = omega arith in e ∙ ap found.At m,
      ),
    )
