-- The reader walks over the capture.
-- Assumes nothing.
use mathlib.Core.Path.{◌≡◌, refl, sym, ap, ◌∙◌, subst}
use mathlib.Core.Bool.{true}
use mathlib.Core.Logic.{◌⊎◌, inl, inr}
use mathlib.Core.List.{List}
use Prim.Native.Nat.{ℕ, zero, suc, ◌+◌, ◌-◌, ◌<◌, ◌≤◌}
use native.Mathlib.Decide.{dec_lt}
use native.Mathlib.Omega.{arith}
use lib.ListN.{length, drop}
use borrow.Author.Tests.{lt-ltb, le-ltb}
use Rattle.capture.specs.definitions.Read.{Read, End, Refused, Order, Frame}
use Rattle.capture.specs.definitions.Capture.{read_at, next_of, shifted, wanted}
use Rattle.capture.proofs.Cases.{at_end}
use Rattle.capture.proofs.Local.{reads_from_here, wanted_reads, wanted_bounds}
use Rattle.capture.proofs.One.{one_alone}
use Rattle.bench.specs.declared.Run.{Run}
use Rattle.bench.specs.declared.Phase.TheVariants.{Stopped}
use Rattle.bench.specs.definitions.Run.{begun, is_stopped, came_as, stepped}
use Rattle.bench.specs.definitions.Walk.{examined, bytes_at, Reading}
use Rattle.bench.specs.statements.Walk.{ReaderWalks}
use Rattle.bench.proofs.Stops.{is_stopped_lem}
use Rattle.bench.proofs.Walk.{Ahead, walk_starts, walk_ends, walk_goes, stays_stopped, walk_stops, came_stays, walked_stays, end, came_here, step_piece}

module _ (s : List ℕ) where
  -- what is read at a place, whatever it is, leaves the same ahead
  ahead_next : (i : ℕ) (r : Run) → Ahead s i r → Ahead s (next_of (read_at s i) i) (came_as (read_at s i) r s)
  unfolding came_as
  ahead_next i r A = go (dec_lt i (length s)) (dec_lt i (next_of (read_at s i) i))
    where
      go : Dec (i < length s) → Dec (i < next_of (read_at s i) i) → Ahead s (next_of (read_at s i) i) (came_as (read_at s i) r s)
      go (yes h) (yes l) = walk_goes s i r A h (read_at s i) refl _ refl _ refl l
      go (yes h) (no l) =
          let stop = stays_stopped s i r A h (read_at s i) refl _ refl _ refl (omega arith) in
          let is = walk_stops s i r A h (read_at s i) refl _ refl _ refl (omega arith) in
          (length s, omega arith, walked_stays _ stop (length s) s (next_of (read_at s i) i) ∙ is)
      go (no h) l = rw (sym (at_end s i (omega arith))) A

  -- a step over the bytes of what stands at a place is what stands there
  step_here : (i : ℕ) (r : Run) → stepped r (bytes_at s i (next_of (read_at s i) i)) ≡ came_as (read_at s i) r s
  unfolding stepped shifted
  step_here i r = go (read_at (drop i s) 0) refl
    where
      all_left : (x : Read) → read_at (drop i s) 0 ≡ x → next_of x 0 ≡ 0 → next_of (read_at s i) i ≡ i
          → stepped r (bytes_at s i (next_of (read_at s i) i)) ≡ came_as (read_at s i) r s
      all_left x e z n =
          rw (n, le-ltb i i (omega arith))
          (ap (λ (y : Read). came_as y r (drop i s)) (one_alone (drop i s) (inl (ap (λ (y : Read). next_of y 0) e ∙ z))) ∙ came_here r s i)

      one : (x : Read) → read_at (drop i s) 0 ≡ x → 0 < wanted (drop i s) → next_of (read_at s i) i ≡ i + wanted (drop i s)
          → stepped r (bytes_at s i (next_of (read_at s i) i)) ≡ came_as (read_at s i) r s
      one x e w n =
          let m : next_of (read_at s i) i - i ≡ wanted (drop i s) = omega arith in
          rw (lt-ltb i (next_of (read_at s i) i) (omega arith), m) (step_piece r (drop i s) ∙ came_here r s i)

      at : (x : Read) → read_at (drop i s) 0 ≡ x → read_at s i ≡ shifted i x
      at x e = reads_from_here s i ∙ ap (shifted i) e

      go : (x : Read) → read_at (drop i s) 0 ≡ x → stepped r (bytes_at s i (next_of (read_at s i) i)) ≡ came_as (read_at s i) r s
      go End e = all_left End e refl (ap (λ (y : Read). next_of y i) (at End e))
      go (Refused refusal) e = all_left (Refused refusal) e refl (ap (λ (y : Read). next_of y i) (at (Refused refusal) e))
      go (Order start asked allowed next) e =
          one (Order start asked allowed next) e (let w = (wanted_bounds (drop i s)).0 in omega arith)
          (ap (λ (y : Read). next_of y i) (at (Order start asked allowed next) e)
          ∙ ap (λ (n : ℕ). i + n) ((wanted_reads (drop i s)).1 start asked allowed next e))
      go (Frame number from next) e =
          one (Frame number from next) e (let w = (wanted_bounds (drop i s)).0 in omega arith)
          (ap (λ (y : Read). next_of y i) (at (Frame number from next) e) ∙ ap (λ (n : ℕ). i + n) ((wanted_reads (drop i s)).2 number from next e).0)

  -- a stopped run is the whole run
  stopped_ahead : (i : ℕ) (r : Run) → Ahead s i r → is_stopped r.phase ≡ true → r ≡ examined s
  stopped_ahead i r (n, e, w) h = sym (walked_stays r (is_stopped_lem r.phase h) n s i) ∙ w

  ahead_moved : (i : ℕ) (r : Run) → Ahead s i r → (read : Read) → read ≡ read_at s i → (j : ℕ) → j ≡ next_of read i
      → (x : Run) → x ≡ stepped r (bytes_at s i j) → Ahead s j x
  ahead_moved i r A read is j at x step =
      let to : j ≡ next_of (read_at s i) i = at ∙ ap (λ (z : Read). next_of z i) is in
      subst (λ (y : Run). Ahead s j y) (sym (step ∙ ap (λ (k : ℕ). stepped r (bytes_at s i k)) to ∙ step_here i r))
      (subst (λ (k : ℕ). Ahead s k (came_as (read_at s i) r s)) (sym to) (ahead_next i r A))

  -- where the walk stands after so many calls
  so_far : (n : ℕ) (places : ℕ → ℕ) (reads : ℕ → Read) (runs : ℕ → Run) → Ahead s (places 0) (runs 0)
      → ((k : ℕ) → k < n → reads k ≡ read_at s (places k)) → ((k : ℕ) → k < n → places (suc k) ≡ next_of (reads k) (places k))
      → ((k : ℕ) → k < n → runs (suc k) ≡ stepped (runs k) (bytes_at s (places k) (places (suc k)))) → Ahead s (places n) (runs n)
  so_far zero places reads runs A next moved step = A
  so_far (suc n) places reads runs A next moved step =
      ahead_moved (places n) (runs n)
      (so_far n places reads runs A (λ k h. next k (omega arith)) (λ k h. moved k (omega arith)) (λ k h. step k (omega arith)))
      (reads n) (next n (omega arith)) (places (suc n)) (moved n (omega arith)) (runs (suc n)) (step n (omega arith))

  starts : (i : ℕ) (r : Run) → i ≡ 0 → r ≡ begun → Ahead s i r
  starts i r z e = subst (λ (k : ℕ). Ahead s k r) (sym z) (walk_starts s r e)

  comes_to : (r : Run) → Reading s r → r ≡ examined s
  comes_to r R = R.last ∙ go R.enough
    where
      here : Ahead s (R.places R.calls) (R.runs R.calls)
      here = so_far R.calls R.places R.reads R.runs (starts _ _ R.begin.0 R.begin.1) R.next R.moved R.step

      go : (read_at s (R.places R.calls) ≡ End) ⊎ (is_stopped (R.runs R.calls).phase ≡ true) → R.runs R.calls ≡ examined s
      go (inl e) = walk_ends s _ _ here (end s _ e)
      go (inr h) = stopped_ahead _ _ here h

  -- the calls, as many as there are bytes
  place_at : ℕ → ℕ
  place_at zero = 0
  place_at (suc k) = next_of (read_at s (place_at k)) (place_at k)

  run_at : ℕ → Run
  run_at zero = begun
  run_at (suc k) = came_as (read_at s (place_at k)) (run_at k) s

  ahead_at : (k : ℕ) → Ahead s (place_at k) (run_at k)
  unfolding place_at run_at
  ahead_at k = so_far k place_at (λ j. read_at s (place_at j)) run_at (walk_starts s begun refl) (λ j h. refl) (λ j h. refl)
      (λ j h. sym (step_here (place_at j) (run_at j)))

  -- each call moves the place, or stops the run, or finds the end
  moves : (k : ℕ) → (k ≤ place_at k) ⊎ ((length s ≤ place_at k) ⊎ ((run_at k).phase ≡ Stopped))
  unfolding place_at run_at came_as
  moves zero = inl (omega arith)
  moves (suc k) = go (moves k) (dec_lt (place_at k) (length s)) (dec_lt (place_at k) (next_of (read_at s (place_at k)) (place_at k)))
    where
      i : ℕ
      i = place_at k

      go : (k ≤ i) ⊎ ((length s ≤ i) ⊎ ((run_at k).phase ≡ Stopped)) → Dec (i < length s) → Dec (i < next_of (read_at s i) i)
          → (suc k ≤ next_of (read_at s i) i) ⊎ ((length s ≤ next_of (read_at s i) i) ⊎ ((came_as (read_at s i) (run_at k) s).phase ≡ Stopped))
      go (inr (inr h)) x y = inr (inr (ap (λ (r : Run). r.phase) (came_stays (run_at k) h (read_at s i) s) ∙ h))
      go (inr (inl l)) x y = inr (inl (rw (sym (at_end s i l)) l))
      go (inl l) (no h) y = inr (inl (rw (sym (at_end s i (omega arith))) (omega arith)))
      go (inl l) (yes h) (yes m) = inl (omega arith)
      go (inl l) (yes h) (no m) = inr (inr (stays_stopped s i (run_at k) (ahead_at k) h (read_at s i) refl _ refl _ refl (omega arith)))

  reading : Reading s (run_at (length s))
  unfolding place_at run_at is_stopped
  reading =
      record {
        calls = length s;
        places = place_at;
        reads = λ k. read_at s (place_at k);
        runs = run_at;
        begin = (refl, refl);
        next = λ k h. refl;
        moved = λ k h. refl;
        step = λ k h. sym (step_here (place_at k) (run_at k));
        enough = go (moves (length s));
        last = refl;
      }
    where
      go : (length s ≤ place_at (length s)) ⊎ ((length s ≤ place_at (length s)) ⊎ ((run_at (length s)).phase ≡ Stopped))
          → (read_at s (place_at (length s)) ≡ End) ⊎ (is_stopped (run_at (length s)).phase ≡ true)
      go (inl l) = inl (sym (at_end s _ l))
      go (inr (inl l)) = inl (sym (at_end s _ l))
      go (inr (inr h)) = inr (ap is_stopped h)

pub reader_walks : ReaderWalks
reader_walks = (comes_to, λ s. subst (Reading s) (comes_to s (run_at s (length s)) (reading s)) (reading s))
