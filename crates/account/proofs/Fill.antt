-- What is due to a frame, by its number: `DueByNumber` and `Brings`; and `FewerThanTwo`.
-- Assumes nothing.
use Rattle.std.proofs.Common.{◌≡◌, ℕ, zero, suc, ◌+◌, ◌%◌, ◌^◌, ◌<◌, ◌≤◌, Bool, true, false, cond, ◌&&◌}
use Rattle.std.proofs.Common.{eqb, leb, ◌≢◌, ◌-◌, List, [], ◌∷◌, length, length-drop, take, drop, count_by, get_or, ap, sym, refl, ◌∙◌}
use Rattle.std.proofs.Common.{subst, arith, eq-eqb, ne_eqb, le-leb, leb-true}
use borrow.Author.Tests.{lt-leb}
use Rattle.std.proofs.lemmas.List.Recursion.{is_count_by}
use Rattle.std.proofs.lemmas.List.{get_or-drop, take_all}
use Rattle.std.proofs.lemmas.Bool.Decides.{nat_tests}
use Rattle.bits.specs.definitions.Bits.{count}
use Rattle.bits.proofs.Count.{count_append, count_cong, count_le, count_none, count_all}
use Rattle.account.specs.definitions.Account.{ahead, by_number, due, tallied, counted, tallies_of, total, measured, verdict}
use Rattle.account.specs.statements.Fill.{DueByNumber, Brings, FewerThanTwo}
use Rattle.account.specs.declared.Account.{Account}

-- ---- by number

module _ {A : Type 0} (a : Account) (got : ℕ) (first second later : A) where
  pub at_start : ahead got a.start ≡ 0 → by_number a got first second later ≡ first
  at_start e = rw (eq-eqb _ _ e) refl

  pub at_next : ahead got a.start ≡ 1 → by_number a got first second later ≡ second
  at_next e = rw (ne_eqb (ahead got a.start) 0 (omega arith), eq-eqb _ _ e) refl

  pub at_later : 2 ≤ ahead got a.start → by_number a got first second later ≡ later
  at_later h = rw (ne_eqb (ahead got a.start) 0 (omega arith), ne_eqb (ahead got a.start) 1 (omega arith)) refl

pub due_by_number : DueByNumber
unfolding ahead
due_by_number a got hs hg = (
  λ e. let z = zero_ahead e in (at_start a got 0 320 384 z, λ place. at_start a got false (leb 64 place) true z),
  λ e. let z = one_ahead e in (at_next a got 0 320 384 z, λ place. at_next a got false (leb 64 place) true z),
  λ m n. let z = further m n in (at_later a got 0 320 384 z, λ place. at_later a got false (leb 64 place) true z),
)
  where
    zero_ahead : got ≡ a.start → ahead got a.start ≡ 0
    zero_ahead e = omega arith

    one_ahead : got ≡ (a.start + 1) % 2 ^ 32 → ahead got a.start ≡ 1
    one_ahead e = omega arith

    further : got ≢ a.start → got ≢ (a.start + 1) % 2 ^ 32 → 2 ≤ ahead got a.start
    further m n = omega arith

-- ---- the tallied words, from their first place on

-- those of a list that pass a test, by their places
in_list : (p : ℕ → Bool) (xs : List ℕ) → count (λ place. p (get_or xs place 0)) (length xs) ≡ count_by p xs
unfolding count
in_list p = is_count_by (λ xs. count (λ place. p (get_or xs place 0)) (length xs)) p none more
  where
    none : count (λ place. p (get_or [] place 0)) 0 ≡ 0
    none = refl

    -- the first of them apart
    first_apart : (q : ℕ → Bool) (n : ℕ) → count q (suc n) ≡ cond (q 0) 1 0 + count (λ i. q (suc i)) n
    first_apart q zero = refl
    first_apart q (suc n) = omega (arith, first_apart q n)

    more : (x : ℕ) (xs : List ℕ) → count (λ place. p (get_or (x ∷ xs) place 0)) (suc (length xs))
        ≡ cond (p x) (1 + count (λ place. p (get_or xs place 0)) (length xs)) (count (λ place. p (get_or xs place 0)) (length xs))
    more x xs = first_apart (λ place. p (get_or (x ∷ xs) place 0)) (length xs) ∙ one_more (p x) _
      where
        one_more : (b : Bool) (n : ℕ) → cond b 1 0 + n ≡ cond b (1 + n) n
        one_more true n = omega arith
        one_more false n = omega arith

-- and those from a place on
from_place : (p : ℕ → Bool) (xs : List ℕ) (first : ℕ) → first ≤ length xs
    → count_by p (drop first xs) ≡ count (λ place. leb first place && p (get_or xs place 0)) (length xs)
from_place p xs first h = sym (in_list p (drop first xs)) ∙ there ∙ sym (whole ∙ count_append q first rest ∙ rw before (omega arith))
  where
    rest : ℕ
    rest = length xs - first

    q : ℕ → Bool
    q place = leb first place && p (get_or xs place 0)

    there : count (λ i. p (get_or (drop first xs) i 0)) (length (drop first xs)) ≡ count (λ i. q (first + i)) rest
    there = rw length-drop (count_cong rest _ _ (λ i l. rw (get_or-drop first xs i 0, le-leb first (first + i) (omega arith)) refl))

    whole : count q (length xs) ≡ count q (first + rest)
    whole = ap (count q) (let n : length xs ≡ first + rest = omega arith in n)

    before : count q first ≡ 0
    before = count_none q first (λ i l. rw (lt-leb first i l) refl)

-- in code
pub from_first : (a : Account) (got : ℕ) (flags : List ℕ) (v first : ℕ) → first ≡ by_number a got 384 64 0 → first ≤ 384 → length flags ≡ 384
    → count_by (λ flag. eqb flag v) (take (384 - first) (drop first flags)) ≡ counted a got flags v
unfolding counted
from_first a got flags v first e h l =
    ap (count_by (λ flag. eqb flag v)) (take_all (384 - first) (drop first flags) (rw length-drop (omega arith)))
    ∙ from_place (λ flag. eqb flag v) flags first (omega arith)
    ∙ rw (l, e) (count_cong 384 _ _ (λ place h k. by_place (eqb (ahead got a.start) 0) (eqb (ahead got a.start) 1) place h k && eqb (get_or flags place 0) v))
  where
    by_place : (x y : Bool) (place : ℕ) → place < 384 → leb (cond x 384 (cond y 64 0)) place ≡ cond x false (cond y (leb 64 place) true)
    by_place true y place h = lt-leb 384 place (omega arith)
    by_place false true place h = refl
    by_place false false place h = le-leb 0 place (omega arith)

-- how many they are
how_many : (x y : Bool) → count (λ place. cond x false (cond y (leb 64 place) true)) 384 ≡ cond x 0 (cond y 320 384)
unfolding count
how_many true y = refl
how_many false true = refl
how_many false false = refl

-- no more than all
pub due_most : (a : Account) (got : ℕ) → due a got ≤ 384
due_most a got = subst (λ (n : ℕ). n ≤ 384) (how_many (eqb (ahead got a.start) 0) (eqb (ahead got a.start) 1)) (count_le (tallied a got) 384)

-- ---- four flags, and each byte up to 3 is one

one_of_four : (x : ℕ) → ◌≡◌ {A = ℕ} (cond (eqb x 0) 1 0 + cond (eqb x 1) 1 0 + cond (eqb x 2) 1 0 + cond (eqb x 3) 1 0) (cond (leb x 3) 1 0)
one_of_four zero = refl
one_of_four (suc zero) = refl
one_of_four (suc (suc zero)) = refl
one_of_four (suc (suc (suc zero))) = refl
one_of_four (suc (suc (suc (suc x)))) =
    let y = suc (suc (suc (suc x))) in
    rw (lt-leb y 3 (omega arith), ne_eqb y 0 (omega arith), ne_eqb y 1 (omega arith), ne_eqb y 2 (omega arith), ne_eqb y 3 (omega arith)) refl

-- of the words that pass a test
four_in_all : (test : ℕ → Bool) (flags : List ℕ) (n : ℕ)
    → count (λ w. test w && eqb (get_or flags w 0) 0) n + count (λ w. test w && eqb (get_or flags w 0) 1) n + count (λ w. test w && eqb (get_or flags w 0) 2) n
    + count (λ w. test w && eqb (get_or flags w 0) 3) n ≡ count (λ w. test w && leb (get_or flags w 0) 3) n
unfolding count
four_in_all test flags zero = refl
four_in_all test flags (suc n) = omega (arith, of_this (test n), four_in_all test flags n)
  where
    of_this : (b : Bool)
        → cond (b && eqb (get_or flags n 0) 0) 1 0 + cond (b && eqb (get_or flags n 0) 1) 1 0 + cond (b && eqb (get_or flags n 0) 2) 1 0
        + cond (b && eqb (get_or flags n 0) 3) 1 0 ≡ cond (b && leb (get_or flags n 0) 3) 1 0
    of_this true = one_of_four (get_or flags n 0)
    of_this false = refl

pub brings : Brings
unfolding counted
brings a got flags = (
  λ e place h t. leb-true (get_or flags place 0) 3
      (count_all (tallied a got) (λ w. leb (get_or flags w 0) 3) 384 (sym all ∙ e ∙ sym as_due) place h t),
  λ f. all ∙ count_cong 384 _ _ (λ w h. small w h (tallied a got w) refl f) ∙ as_due,
)
  where
    all : total (tallies_of a got flags) ≡ count (λ w. tallied a got w && leb (get_or flags w 0) 3) 384
    all = four_in_all (tallied a got) flags 384

    as_due : count (tallied a got) 384 ≡ due a got
    as_due = how_many (eqb (ahead got a.start) 0) (eqb (ahead got a.start) 1)

    small : (w : ℕ) → w < 384 → (b : Bool) → tallied a got w ≡ b → ((place : ℕ) → place < 384 → tallied a got place ≡ true → get_or flags place 0 ≤ 3)
        → (tallied a got w && leb (get_or flags w 0) 3) ≡ tallied a got w
    small w h true e f = rw (e, le-leb (get_or flags w 0) 3 (f w h e)) refl
    small w h false e f = rw e refl

-- ---- an order for one frame

pub fewer_than_two : FewerThanTwo
unfolding verdict measured
fewer_than_two asked allowed a stopped h = grind (arith, nat_tests)
