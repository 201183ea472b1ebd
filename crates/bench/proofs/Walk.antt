-- The walk over a capture: a stopped run stays as it is, a record by itself is the record in its place, and so stepping through the pieces is the walk.
-- Assumes nothing.
use mathlib.Core.Path.{◌≡◌, refl, sym, ap, ◌∙◌, subst}
use mathlib.Core.Bool.{true, cond}
use mathlib.Core.List.{List, [], ◌∷◌, ◌++◌, append_assoc, append-nil}
use mathlib.Core.Logic.{◌⊎◌, inl, inr}
use Prim.Native.Nat.{ℕ, zero, suc, ◌+◌, ◌≤◌, ◌<◌}
use native.Mathlib.Decide.{dec_lt, ℕ_discrete}
use native.Mathlib.Omega.{arith}
use lib.Dec.{eqb}
use lib.ListN.{length, take, drop, length-drop, length-append}
use lib.Seq.{drop-drop, take_all, take-append_seam, drop-append_seam}
use borrow.Author.Tests.{eq-eqb, ne_eqb}
use Rattle.capture.specs.definitions.Read.{Read, End, Refused, Order, Frame}
use Rattle.capture.specs.definitions.Capture.{read_at, next_of, read_one, shifted, symbols_at, wanted}
use Rattle.capture.proofs.Found.{Stands, stands, order_found, frame_found}
use Rattle.capture.proofs.Cases.{at_end}
use Rattle.capture.proofs.Local.{reads_from_here, symbols_here, wanted_reads, wanted_bounds, wanted_alike}
use Rattle.capture.proofs.One.{is_refused, one_whole, one_piece}
use Rattle.bench.specs.declared.Run.{Run}
use Rattle.bench.specs.declared.Phase.{Phase}
use Rattle.bench.specs.declared.Phase.TheVariants.{Unordered, Going, Stopped}
use Rattle.bench.specs.definitions.Run.{begun, order_came, frame_came, halted, is_stopped, came_as, stepped}
use Rattle.bench.specs.definitions.Walk.{walked, examined, cut, pieces, through, joined}
use Rattle.bench.specs.statements.Walk.{PiecesAlike, NothingPassedOver}

-- ---- a stopped run stays as it is

module _ (r : Run) (h : r.phase ≡ Stopped) where
  pub came_stays : (read : Read) (s : List ℕ) → came_as read r s ≡ r
  unfolding came_as order_came frame_came halted
  came_stays End s = refl
  came_stays (Refused refusal) s = rw h refl
  came_stays (Order start asked allowed next) s = rw h refl
  came_stays (Frame number from next) s = rw h refl

  pub walked_stays : (n : ℕ) (s : List ℕ) (i : ℕ) → walked n s i r ≡ r
  unfolding walked
  walked_stays zero s i = refl
  walked_stays (suc n) s i = ap (walked n s (next_of (read_at s i) i)) (came_stays (read_at s i) s) ∙ walked_stays n s (next_of (read_at s i) i)

  pub through_stays : (ps : List (List ℕ)) → through r ps ≡ r
  unfolding through stepped
  through_stays [] = refl
  through_stays (p ∷ ps) = ap (λ (x : Run). through x ps) (came_stays (read_one p) p) ∙ through_stays ps

-- a refused record stops a run
halted_stops : (p : Phase) (r : Run) → r.phase ≡ p → (halted p r).phase ≡ Stopped
unfolding halted
halted_stops Unordered r e = refl
halted_stops Going r e = refl
halted_stops Stopped r e = e

pub refused_stops : (r : Run) (s : List ℕ) (refusal : ℕ) → (came_as (Refused refusal) r s).phase ≡ Stopped
unfolding came_as
refused_stops r s refusal = halted_stops r.phase r refl

-- at the end nothing more comes
pub walked_end : (n : ℕ) (s : List ℕ) (i : ℕ) (r : Run) → read_at s i ≡ End → walked n s i r ≡ r
unfolding walked came_as
walked_end zero s i r h = refl
walked_end (suc n) s i r h = rw h (walked_end n s i r h)

-- one record of the walk
pub walked_one : (n : ℕ) (s : List ℕ) (i : ℕ) (r : Run) (read : Read) → read_at s i ≡ read
    → walked (suc n) s i r ≡ walked n s (next_of read i) (came_as read r s)
unfolding walked
walked_one n s i r read e = ap (λ (x : Read). walked n s (next_of x i) (came_as x r s)) e

-- the end is behind the last byte
pub end : (s : List ℕ) (i : ℕ) → read_at s i ≡ End → length s ≤ i
unfolding Stands
end s i e = subst (Stands s i) e (stands s i)

-- ---- a record by itself

came_alike : (read : Read) (r : Run) (p s : List ℕ) → ((number from next : ℕ) → read ≡ Frame number from next → symbols_at p from ≡ symbols_at s from)
    → came_as read r p ≡ came_as read r s
unfolding came_as
came_alike End r p s h = refl
came_alike (Refused refusal) r p s h = refl
came_alike (Order start asked allowed next) r p s h = refl
came_alike (Frame number from next) r p s h = ap (frame_came r.phase r number) (h number from next refl)

came_shifted : (read : Read) (r : Run) (s : List ℕ) (i : ℕ) → came_as read r (drop i s) ≡ came_as (shifted i read) r s
unfolding came_as shifted
came_shifted End r s i = refl
came_shifted (Refused refusal) r s i = refl
came_shifted (Order start asked allowed next) r s i = refl
came_shifted (Frame number from next) r s i = ap (frame_came r.phase r number) (sym (symbols_here s i from))

-- what stands at the beginning of all that is left from a place on is what stands there
pub came_here : (r : Run) (s : List ℕ) (i : ℕ) → came_as (read_at (drop i s) 0) r (drop i s) ≡ came_as (read_at s i) r s
came_here r s i = came_shifted (read_at (drop i s) 0) r s i ∙ ap (λ (x : Read). came_as x r s) (sym (reads_from_here s i))

-- a step with the bytes wanted, or with what is left, is what stands at the beginning of them all
pub step_piece : (r : Run) (s : List ℕ) → stepped r (take (wanted s) s) ≡ came_as (read_at s 0) r s
unfolding stepped
step_piece r s =
    ap (λ (x : Read). came_as x r (take (wanted s) s)) (one_piece s) ∙ came_alike (read_at s 0) r (take (wanted s) s) s
    (λ number from next e. ((wanted_reads s).2 number from next e).1)

-- where a run that goes on reads, all of what it reads is wanted
next_wanted : (s : List ℕ) (i : ℕ) (read : Read) → read_at (drop i s) 0 ≡ read
    → (read_at s i ≡ End) ⊎ (((r : Run) → (came_as (read_at s i) r s).phase ≡ Stopped) ⊎ (next_of (read_at s i) i ≡ i + wanted (drop i s)))
unfolding shifted
next_wanted s i End e = inl (reads_from_here s i ∙ ap (shifted i) e)
next_wanted s i (Refused refusal) e =
    inr (inl (λ r. ap (λ (x : Read). (came_as x r s).phase) (reads_from_here s i ∙ ap (shifted i) e) ∙ refused_stops r s refusal))
next_wanted s i (Order start asked allowed next) e =
    inr (inr (ap (λ (r : Read). next_of r i) (reads_from_here s i ∙ ap (shifted i) e)
    ∙ ap (λ (n : ℕ). i + n) ((wanted_reads (drop i s)).1 start asked allowed next e)))
next_wanted s i (Frame number from next) e =
    inr (inr (ap (λ (r : Read). next_of r i) (reads_from_here s i ∙ ap (shifted i) e)
    ∙ ap (λ (n : ℕ). i + n) ((wanted_reads (drop i s)).2 number from next e).0))

-- ---- piece by piece

module _ (s : List ℕ) where
  through_cut : (n i : ℕ) (r : Run) → through r (cut n (drop i s)) ≡ walked n s i r
  unfolding cut walked through
  through_cut zero i r = refl
  through_cut (suc n) i r = at (ℕ_discrete (length (drop i s)) 0) (next_wanted s i (read_at (drop i s) 0) refl) (λ j x. through_cut n j x)
    where
      new : Run
      new = came_as (read_at s i) r s

      new_is : stepped r (take (wanted (drop i s)) (drop i s)) ≡ new
      new_is = step_piece r (drop i s) ∙ came_here r s i

      here : through (stepped r (take (wanted (drop i s)) (drop i s))) (cut n (drop (wanted (drop i s)) (drop i s))) ≡ through new
          (cut n (drop (wanted (drop i s)) (drop i s)))
      here = ap (λ (x : Run). through x (cut n (drop (wanted (drop i s)) (drop i s)))) new_is

      at : Dec (length (drop i s) ≡ 0)
          → (read_at s i ≡ End) ⊎ (((x : Run) → (came_as (read_at s i) x s).phase ≡ Stopped) ⊎ (next_of (read_at s i) i ≡ i + wanted (drop i s)))
          → ((j : ℕ) (x : Run) → through x (cut n (drop j s)) ≡ walked n s j x)
          → through r (cond (eqb (length (drop i s)) 0) [] (take (wanted (drop i s)) (drop i s) ∷ cut n (drop (wanted (drop i s)) (drop i s))))
          ≡ walked n s (next_of (read_at s i) i) (came_as (read_at s i) r s)
      at (yes z) c IH = rw (eq-eqb (length (drop i s)) 0 z) (sym (walked_end (suc n) s i r (sym (at_end s i (let d = length-drop i s in omega arith)))))
      at (no z) (inl e) IH = let out = end s i e in absurd (z (let d = length-drop i s in omega arith))
      at (no z) (inr (inl h)) IH =
          rw (ne_eqb (length (drop i s)) 0 z) (here ∙ through_stays new (h r) (cut n (drop (wanted (drop i s)) (drop i s)))
          ∙ sym (walked_stays new (h r) n s (next_of (read_at s i) i)))
      at (no z) (inr (inr e)) IH =
          rw (ne_eqb (length (drop i s)) 0 z) (here ∙ ap (λ (l : List ℕ). through new (cut n l)) (drop-drop (wanted (drop i s)) i s)
          ∙ IH (i + wanted (drop i s)) new ∙ ap (λ (j : ℕ). walked n s j new) (sym e))

pub pieces_alike : PiecesAlike
unfolding pieces examined
pieces_alike s = through_cut s (length s) 0 begun

-- ---- the loop that walks

-- from here on, over enough records, the walk comes to what the whole examination comes to
abbrev pub Ahead : List ℕ → ℕ → Run → Type 0
Ahead s i r = (n : ℕ) × (length s ≤ i + n) × (walked n s i r ≡ examined s)

pub walk_starts : (s : List ℕ) (r : Run) → r ≡ begun → Ahead s 0 r
unfolding examined
walk_starts s r e = rw e (length s, omega arith, refl)

pub walk_ends : (s : List ℕ) (i : ℕ) (r : Run) → Ahead s i r → length s ≤ i → r ≡ examined s
walk_ends s i r (n, e, w) h = sym (walked_end n s i r (sym (at_end s i h))) ∙ w

-- one record on: the place moves, or the run is stopped
module _ (s : List ℕ) (i : ℕ) (r : Run) (A : Ahead s i r) (h : i < length s) (read : Read) (is : read ≡ read_at s i) (new : Run)
    (came : new ≡ came_as read r s) (next : ℕ) (at : next ≡ next_of read i) where
  one_on : (n : ℕ) → length s ≤ i + n → walked n s i r ≡ examined s → (m : ℕ) × (n ≡ suc m) × (walked m s next new ≡ examined s)
  unfolding walked
  one_on zero e w = absurd (omega arith)
  one_on (suc m) e w = (m, refl, rw (came, at, is) w)

  pub walk_goes : i < next → Ahead s next new
  walk_goes l =
      let T = one_on A.0 A.1 A.2 in
      (T.0, (let e = A.1 in let q = T.1 in omega arith), T.2)

  -- where the place stays, the run is stopped
  pub stays_stopped : next ≤ i → new.phase ≡ Stopped
  stays_stopped l = stop read is came at
    where
      stop : (x : Read) → x ≡ read_at s i → new ≡ came_as x r s → next ≡ next_of x i → new.phase ≡ Stopped
      stop End e c n = absurd (let z = end s i (sym e) in omega arith)
      stop (Refused refusal) e c n = ap (λ (y : Run). y.phase) c ∙ refused_stops r s refusal
      stop (Order start asked allowed after) e c n = absurd (let z = (order_found s i (sym e)).next_is in omega arith)
      stop (Frame number from after) e c n = absurd (let z = (frame_found s i (sym e)).next_is in omega arith)

  pub walk_stops : next ≤ i → new ≡ examined s
  walk_stops l = let T = one_on A.0 A.1 A.2 in sym (walked_stays new (stays_stopped l) T.0 s next) ∙ T.2

-- what is read beyond the last byte, too: it is the end, and the place stays
module _ (s : List ℕ) (i : ℕ) (read : Read) (is : read ≡ read_at s i) (next : ℕ) (at : next ≡ next_of read i) where
  -- the place moves behind a record alone, which lies before the end
  pub moves_inside : i < next → i < length s
  moves_inside l = go (dec_lt i (length s))
    where
      go : Dec (i < length s) → i < length s
      go (yes h) = h
      go (no h) = absurd (let stays : next ≡ i = at ∙ ap (λ (x : Read). next_of x i) (is ∙ sym (at_end s i (omega arith))) in omega arith)

  module _ (r : Run) (A : Ahead s i r) (new : Run) (came : new ≡ came_as read r s) where
    pub walk_on : i < next → Ahead s next new
    walk_on l = walk_goes s i r A (moves_inside l) read is new came next at l

    -- where it stays the walk is over: at the end, or at a refusal
    pub walk_over : next ≤ i → new ≡ examined s
    unfolding came_as
    walk_over l = go (dec_lt i (length s))
      where
        go : Dec (i < length s) → new ≡ examined s
        go (yes h) = walk_stops s i r A h read is new came next at l
        go (no h) = came ∙ ap (λ (x : Read). came_as x r s) (is ∙ sym (at_end s i (omega arith))) ∙ walk_ends s i r A (omega arith)

-- ---- reading record by record

-- behind the last element stands nothing
pub none_left : (n : ℕ) (l : List ℕ) → length l ≤ n → drop n l ≡ []
none_left zero [] h = refl
none_left zero (x ∷ xs) h = absurd (omega arith)
none_left (suc n) [] h = refl
none_left (suc n) (x ∷ xs) h = none_left n xs (omega arith)

-- more pieces than there are change nothing
cut_enough : (n m : ℕ) (s : List ℕ) → length s ≤ n → length s ≤ m → cut n s ≡ cut m s
unfolding cut
cut_enough zero zero s h k = refl
cut_enough zero (suc m) s h k = rw (eq-eqb (length s) 0 (omega arith)) refl
cut_enough (suc n) zero s h k = rw (eq-eqb (length s) 0 (omega arith)) refl
cut_enough (suc n) (suc m) s h k =
    let w = (wanted_bounds s).0 in
    let d = length-drop (wanted s) s in
    ap (λ (ps : List (List ℕ)). cond (eqb (length s) 0) [] (take (wanted s) s ∷ ps)) (cut_enough n m (drop (wanted s) s) (omega arith) (omega arith))

-- the first piece and the others
pub pieces_first : (s : List ℕ) → 0 < length s → pieces s ≡ take (wanted s) s ∷ pieces (drop (wanted s) s)
unfolding pieces cut
pieces_first s h = go (length s) refl
  where
    go : (n : ℕ) → length s ≡ n → cut n s ≡ take (wanted s) s ∷ cut (length (drop (wanted s) s)) (drop (wanted s) s)
    go zero e = absurd (omega arith)
    go (suc n) e =
        let w = (wanted_bounds s).0 in
        let d = length-drop (wanted s) s in
        rw (ne_eqb (length s) 0 (λ z. omega arith))
        (ap (λ (ps : List (List ℕ)). take (wanted s) s ∷ ps) (cut_enough n (length (drop (wanted s) s)) (drop (wanted s) s) (omega arith) (omega arith)))

-- the bytes s have been stepped through, up to the run r, whatever may follow them
abbrev pub Onward : List ℕ → Run → Type 0
Onward s r = (rest : List ℕ) → through r (pieces rest) ≡ examined (s ++ rest)

pub onward_starts : (r : Run) → r ≡ begun → Onward [] r
onward_starts r e = rw e pieces_alike

-- nothing follows
pub onward_ends : (s : List ℕ) (r : Run) → Onward s r → r ≡ examined s
unfolding pieces cut through
onward_ends s r O = O [] ∙ ap examined (append-nil s)

module _ (s : List ℕ) (r : Run) (O : Onward s r) (p : List ℕ) (some : 0 < length p) where
  -- what is wanted follows, or less, as the last
  pub onward_last : length p ≤ wanted p → stepped r p ≡ examined (s ++ p)
  unfolding through pieces cut
  onward_last h =
      ap (stepped r) (sym (take_all (wanted p) p h)) ∙ ap (λ (x : List ℕ). through (stepped r (take (wanted p) p)) (pieces x))
      (sym (none_left (wanted p) p h))
      ∙ ap (through r) (sym (pieces_first p some)) ∙ O p

  -- all that is wanted
  pub onward_next : length p ≡ wanted p → Onward (s ++ p) (stepped r p)
  unfolding through
  onward_next h rest =
      let w = (wanted_bounds p).0 in
      let e : wanted (p ++ rest) ≡ length p = wanted_alike p rest (omega arith) ∙ sym h in
      let first : pieces (p ++ rest) ≡ p ∷ pieces rest
      = pieces_first (p ++ rest) (let l = length-append p rest in omega arith)
      ∙ (λ i. (ap (λ (n : ℕ). take n (p ++ rest)) e ∙ take-append_seam p rest) i ∷ pieces ((ap (λ (n : ℕ). drop n (p ++ rest)) e ∙ drop-append_seam p rest) i))
      in
      ap (through r) (sym first) ∙ O (p ++ rest) ∙ ap examined (sym (append_assoc s p rest))

-- less than is wanted stops a run
pub short_stops : (r : Run) (p : List ℕ) → 0 < length p → length p < wanted p → (stepped r p).phase ≡ Stopped
unfolding stepped is_refused
short_stops r p some h = go (read_one p) refl
  where
    go : (x : Read) → read_one p ≡ x → (came_as x r p).phase ≡ Stopped
    go End e = absurd (let w = (one_whole p End refl e).1 in omega arith)
    go (Refused refusal) e = refused_stops r p refusal
    go (Order start asked allowed next) e =
        let O = one_whole p (Order start asked allowed next) refl e in
        absurd (let w = O.1 in let q = (wanted_reads p).1 start asked allowed next O.0 in omega arith)
    go (Frame number from next) e =
        let O = one_whole p (Frame number from next) refl e in
        absurd (let w = O.1 in let q = ((wanted_reads p).2 number from next O.0).0 in omega arith)

-- ---- by any cut

-- bytes given to a step stop the run, or are none, or are all that is wanted
given : (r : Run) (p : List ℕ) → ((stepped r p).phase ≡ Stopped) ⊎ (((p ≡ []) × (stepped r p ≡ r)) ⊎ ((0 < length p) × (length p ≡ wanted p)))
unfolding stepped is_refused came_as
given r p = go (read_one p) refl
  where
    go : (x : Read) → read_one p ≡ x → ((came_as x r p).phase ≡ Stopped) ⊎ (((p ≡ []) × (came_as x r p ≡ r)) ⊎ ((0 < length p) × (length p ≡ wanted p)))
    go End e = inr (inl (none p (one_whole p End refl e).1, refl))
      where
        none : (l : List ℕ) → length l ≡ 0 → l ≡ []
        none [] z = refl
        none (x ∷ xs) z = absurd (omega arith)
    go (Refused refusal) e = inl (refused_stops r p refusal)
    go (Order start asked allowed next) e =
        let O = one_whole p (Order start asked allowed next) refl e in
        let w = O.1 in
        let q = (wanted_reads p).1 start asked allowed next O.0 in
        let n = (order_found p 0 O.0).next_is in
        inr (inr (omega arith, omega arith))
    go (Frame number from next) e =
        let O = one_whole p (Frame number from next) refl e in
        let w = O.1 in
        let q = ((wanted_reads p).2 number from next O.0).0 in
        let n = (frame_found p 0 O.0).next_is in
        inr (inr (omega arith, omega arith))

-- from what has been stepped through on: stopped, or the run of that and of all that is given
any_cut : (ps : List (List ℕ)) (s : List ℕ) (r : Run) → Onward s r → ((through r ps).phase ≡ Stopped) ⊎ (through r ps ≡ examined (s ++ joined ps))
unfolding through joined
any_cut [] s r O = inr (onward_ends s r O ∙ ap examined (sym (append-nil s)))
any_cut (p ∷ ps) s r O = go (given r p) (λ t x P. any_cut ps t x P)
  where
    go : ((stepped r p).phase ≡ Stopped) ⊎ (((p ≡ []) × (stepped r p ≡ r)) ⊎ ((0 < length p) × (length p ≡ wanted p)))
        → ((t : List ℕ) (x : Run) → Onward t x → ((through x ps).phase ≡ Stopped) ⊎ (through x ps ≡ examined (t ++ joined ps)))
        → ((through (stepped r p) ps).phase ≡ Stopped) ⊎ (through (stepped r p) ps ≡ examined (s ++ (p ++ joined ps)))
    go (inl h) IH = inl (ap (λ (x : Run). x.phase) (through_stays (stepped r p) h ps) ∙ h)
    go (inr (inl (e, k))) IH = rw (k, e) (IH s r O)
    go (inr (inr (some, whole))) IH =
        subst (λ (l : List ℕ). ((through (stepped r p) ps).phase ≡ Stopped) ⊎ (through (stepped r p) ps ≡ examined l)) (append_assoc s p (joined ps))
        (IH (s ++ p) (stepped r p) (onward_next s r O p some whole))

pub nothing_passed_over : NothingPassedOver
unfolding is_stopped
nothing_passed_over ps = go (any_cut ps [] begun (onward_starts begun refl))
  where
    go : ((through begun ps).phase ≡ Stopped) ⊎ (through begun ps ≡ examined (joined ps))
        → (is_stopped (through begun ps).phase ≡ true) ⊎ (through begun ps ≡ examined (joined ps))
    go (inl h) = inl (ap is_stopped h)
    go (inr e) = inr e
