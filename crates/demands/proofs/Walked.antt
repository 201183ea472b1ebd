-- The walk over a measured capture, and back: a run that goes on to the end and is measured has walked over one.
-- Assumes nothing.
use mathlib.Core.Path.{◌≡◌, refl, sym, ap, ◌∙◌, subst}
use mathlib.Core.Bool.{true, false≢true}
use mathlib.Core.Logic.{◌⊎◌, inl, inr}
use mathlib.Core.List.{List, [], ◌++◌, append_assoc, append-nil}
use Prim.Native.Nat.{ℕ, zero, suc, ◌+◌, ◌*◌, ◌^◌, ◌≤◌, ◌<◌}
use native.Mathlib.Decide.{dec_lt}
use native.Mathlib.Omega.{arith}
use lib.ListN.{length, drop, length-drop}
use lib.Seq.{drop-drop, get_or-drop}
use Rattle.bits.specs.definitions.Bits.{AllBytes}
use Rattle.pilots.specs.definitions.Pilots.{locks}
use Rattle.account.specs.definitions.Account.{opened, frame_limit, no_words, measured}
use Rattle.account.proofs.VerdictMeaning.{measured_means}
use Rattle.capture.specs.definitions.Read.{Read}
use Rattle.capture.specs.definitions.Read.{End, Refused, Order, Frame}
use Rattle.capture.specs.definitions.Capture.{layout, read_at, next_of, shifted, symbols_at, order_record, frame_record, frame_number, frame_records}
use Rattle.capture.proofs.Found.{frame_found}
use Rattle.capture.proofs.Local.{reads_from_here, symbols_here}
use Rattle.capture.proofs.Records.{records}
use Rattle.bench.specs.declared.Run.{Run}
use Rattle.bench.specs.declared.Phase.TheVariants.{Going, Stopped}
use Rattle.bench.specs.definitions.Run.{begun, framed, order_came, frame_came, came_as, goes_on}
use Rattle.bench.specs.definitions.Walk.{walked, examined, cut, pieces, through}
use Rattle.bench.proofs.Walk.{walked_one, walked_end, end, none_left, refused_stops}
use Rattle.demands.specs.definitions.Verdict.{words_in, Measured, measured_run}
use Rattle.demands.proofs.Arriving.{run_after, onward_frames}
use Rattle.demands.proofs.Measured.{all_accepted, after, framed_next, Lost, walked_lost, lost_never, next_or_lost}

-- where frame k of a measured capture stands
abbrev pub frame_place : ℕ → ℕ
frame_place k = layout.order_bytes + k * layout.frame_bytes

-- the run after an order
module _ (start asked allowed : ℕ) (frames : ℕ → List ℕ) (h : start < 2 ^ 32) where
  ordered : record { phase = Going; asked = asked; allowed = allowed; account = opened start } ≡ after start asked allowed frames 0
  unfolding words_in
  ordered =
      let e : start ≡ frame_number start 0 = omega arith in
      λ i. record {
        phase = Going;
        asked = asked;
        allowed = allowed;
        account = record { expected = e i; start = start; accepted = 0; missing = 0; words = no_words };
      }

  ordered_first : (s : List ℕ) (next : ℕ) → came_as (Order start asked allowed next) begun s ≡ after start asked allowed frames 0
  unfolding came_as order_came
  ordered_first s next = ordered

  -- and after k frames in their turn
  in_turn : (k : ℕ) → k ≤ frame_limit → ((j : ℕ) → j < k → locks (frames j) 0 ≡ true)
      → run_after start asked allowed (frame_number start) frames k ≡ after start asked allowed frames k
  unfolding run_after frame_came
  in_turn zero l locked = ordered
  in_turn (suc k) l locked =
      ap (λ (r : Run). frame_came r.phase r (frame_number start k) (frames k)) (in_turn k (omega arith) (λ j m. locked j (omega arith)))
      ∙ framed_next start asked allowed frames h k (omega arith) (locked k (omega arith))

-- any capture that was measured
pub measured_run_lem : (s : List ℕ) (m : Measured s) → examined s ≡ measured_run m
unfolding through pieces cut
measured_run_lem s m =
    ap examined (m.capture ∙ sym (append-nil (order_record m.start m.asked m.allowed ++ frame_records (frame_number m.start) m.frames m.asked)))
    ∙ sym (onward_frames m.start m.asked m.allowed (frame_number m.start) m.frames m.numbers m.asked
    (λ k h. (omega arith, m.whole k h)) [])
    ∙ in_turn m.start m.asked m.allowed m.frames m.numbers.0 m.asked m.within m.locked

-- ---- and back

bytes_drop : (s : List ℕ) (i : ℕ) → AllBytes s → AllBytes (drop i s)
bytes_drop s i B = record { byte = λ k. rw (get_or-drop i s k 0) (B.byte (i + k)) }

-- the symbols that stand where frame k should
pub frames_in : List ℕ → ℕ → List ℕ
frames_in s k = symbols_at s (frame_place k + layout.symbols_from)

-- a frame that is read where frame k should stand
module _ (s : List ℕ) (B : AllBytes s) (k number from next : ℕ) (read : read_at (drop (frame_place k) s) 0 ≡ Frame number from next) where
  abbrev rest : List ℕ
  rest = drop (frame_place k) s

  pub found : (number < 2 ^ 32) × (from ≡ layout.symbols_from) × (next ≡ layout.frame_bytes) × (length (symbols_at rest from) ≡ layout.symbols)
      × (rest ≡ frame_record number (symbols_at rest from) ++ drop next rest)
  found = records.frame_found rest number from next (bytes_drop s (frame_place k) B) read

  pub symbols : symbols_at rest from ≡ frames_in s k
  unfolding frames_in
  symbols = sym (symbols_here s (frame_place k) from) ∙ ap (λ (i : ℕ). symbols_at s (frame_place k + i)) found.1

  moves : frame_place k + next ≡ frame_place (suc k)
  moves = let e = found.2 in omega arith

  -- it ends within the capture
  pub ends_inside : frame_place (suc k) ≤ length s
  ends_inside = let w = (frame_found rest 0 read).whole.inside in let d = length-drop (frame_place k) s in omega arith

  pub whole_symbols : length (frames_in s k) ≡ layout.symbols
  whole_symbols = ap length (sym symbols) ∙ found.3

  -- and its record stands there
  pub record_there : drop (frame_place k) s ≡ frame_record number (frames_in s k) ++ drop (frame_place (suc k)) s
  record_there = found.4 ∙ (λ i. frame_record number (symbols i) ++ (drop-drop next (frame_place k) s ∙ ap (λ (p : ℕ). drop p s) moves) i)

-- so far the capture is an order and k frames in their turn
record SoFar (s : List ℕ) (start asked allowed k : ℕ) : Type 0 where
  pub within : k ≤ frame_limit
  pub whole : (j : ℕ) → j < k → length (frames_in s j) ≡ layout.symbols
  pub locked : (j : ℕ) → j < k → locks (frames_in s j) 0 ≡ true
  pub capture : s ≡ order_record start asked allowed ++ (frame_records (frame_number start) (frames_in s) k ++ drop (frame_place k) s)

-- what holds of the first k and of the next holds of one more
pub up_to : {P : ℕ → Type 0} (k : ℕ) → ((j : ℕ) → j < k → P j) → P k → (j : ℕ) → j < suc k → P j
up_to {P} k h p j l = at (dec_lt j k)
  where
    at : Dec (j < k) → P j
    at (yes m) = h j m
    at (no m) = subst P (omega arith) p

-- what a walk that goes on to the end, and is measured, comes to
abbrev Comes : List ℕ → Run → Type 0
Comes s run = goes_on run.phase ≡ true → measured run.asked run.account ≡ true → Measured s

lost_comes : (s : List ℕ) (run : Run) → Lost run → Comes s run
lost_comes s run l g m = absurd (lost_never run run.asked l g m)

stopped_comes : (s : List ℕ) (n i : ℕ) (run : Run) → run.phase ≡ Stopped → Comes s (walked n s i run)
stopped_comes s n i run h = lost_comes s (walked n s i run) (walked_lost n s i run (inl h))

module _ (s : List ℕ) (B : AllBytes s) (start asked allowed : ℕ) (hs : start < 2 ^ 32) (ha : asked < 2 ^ 32) (hw : allowed < 2 ^ 32) where
  -- at the end
  at_last : (k : ℕ) → SoFar s start asked allowed k → length s ≤ frame_place k → measured asked (all_accepted start (frames_in s) k) ≡ true → Measured s
  at_last k F h m =
      let M = measured_means asked (all_accepted start (frames_in s) k) m in
      let all : k ≡ asked = M.all in
      record {
        start = start;
        asked = asked;
        allowed = allowed;
        frames = frames_in s;
        numbers = (hs, ha, hw);
        at_least_two = M.at_least_two;
        within = subst (λ (n : ℕ). n ≤ frame_limit) all F.within;
        whole = subst (λ (n : ℕ). (j : ℕ) → j < n → length (frames_in s j) ≡ layout.symbols) all F.whole;
        locked = subst (λ (n : ℕ). (j : ℕ) → j < n → locks (frames_in s j) 0 ≡ true) all F.locked;
        capture =
            F.capture
            ∙ ap (λ (l : List ℕ). order_record start asked allowed ++ l)
            (ap (λ (l : List ℕ). frame_records (frame_number start) (frames_in s) k ++ l) (none_left (frame_place k) s h)
            ∙ append-nil (frame_records (frame_number start) (frames_in s) k) ∙ ap (frame_records (frame_number start) (frames_in s)) all);
      }

  -- one frame more
  module _ (k number from next : ℕ) (F : SoFar s start asked allowed k) (read : read_at (drop (frame_place k) s) 0 ≡ Frame number from next) where
    one_more : number ≡ frame_number start k → locks (frames_in s k) 0 ≡ true → k < frame_limit → SoFar s start asked allowed (suc k)
    unfolding frame_records
    one_more n l h =
        record {
          within = h;
          whole = up_to k F.whole (whole_symbols s B k number from next read);
          locked = up_to k F.locked l;
          capture =
              F.capture
              ∙ ap (λ (x : List ℕ). order_record start asked allowed ++ x)
              (ap (λ (x : List ℕ). frame_records (frame_number start) (frames_in s) k ++ x)
              (record_there s B k number from next read ∙ ap (λ (x : ℕ). frame_record x (frames_in s k) ++ drop (frame_place (suc k)) s) n)
              ∙ sym (append_assoc (frame_records (frame_number start) (frames_in s) k) (frame_record (frame_number start k) (frames_in s k))
              (drop (frame_place (suc k)) s)));
        }

  back : (n k : ℕ) → length s ≤ frame_place k + n → SoFar s start asked allowed k
      → Comes s (walked n s (frame_place k) (after start asked allowed (frames_in s) k))
  unfolding walked shifted came_as order_came frame_came
  back zero k e F = λ g m. at_last k F (omega arith) m
  back (suc n) k e F = go (read_at (drop (frame_place k) s) 0) refl (back n (suc k) (omega arith))
    where
      run : Run
      run = after start asked allowed (frames_in s) k

      there : (r : Read) → read_at (drop (frame_place k) s) 0 ≡ r → read_at s (frame_place k) ≡ shifted (frame_place k) r
      there r q = reads_from_here s (frame_place k) ∙ ap (shifted (frame_place k)) q

      here : (r : Read) → read_at (drop (frame_place k) s) 0 ≡ r
          → walked (suc n) s (frame_place k) run ≡ walked n s (next_of (shifted (frame_place k) r) (frame_place k)) (came_as (shifted (frame_place k) r) run s)
      here r q = walked_one n s (frame_place k) run (shifted (frame_place k) r) (there r q)

      frame : (number from next : ℕ) → read_at (drop (frame_place k) s) 0 ≡ Frame number from next
          → Lost (framed run number (frames_in s k)) ⊎ ((number ≡ frame_number start k) × (locks (frames_in s k) 0 ≡ true) × (k < frame_limit))
          → (SoFar s start asked allowed (suc k) → Comes s (walked n s (frame_place (suc k)) (after start asked allowed (frames_in s) (suc k))))
          → Comes s (walked n s (frame_place k + next) (framed run number (symbols_at s (frame_place k + from))))
      frame number from next q (inl l) IH =
          subst (λ (f : List ℕ). Comes s (walked n s (frame_place k + next) (framed run number f)))
          (sym (symbols_here s (frame_place k) from ∙ symbols s B k number from next q))
          (lost_comes s (walked n s (frame_place k + next) (framed run number (frames_in s k)))
          (walked_lost n s (frame_place k + next) (framed run number (frames_in s k)) l))
      frame number from next q (inr (t, l, h)) IH =
          subst (Comes s)
          (sym (λ i. walked n s (moves s B k number from next q i)
          ((ap (framed run number) (symbols_here s (frame_place k) from ∙ symbols s B k number from next q) ∙ ap (λ (x : ℕ). framed run x (frames_in s k)) t
          ∙ framed_next start asked allowed (frames_in s) hs k h l) i)))
          (IH (one_more k number from next F q t l h))

      go : (r : Read) → read_at (drop (frame_place k) s) 0 ≡ r
          → (SoFar s start asked allowed (suc k) → Comes s (walked n s (frame_place (suc k)) (after start asked allowed (frames_in s) (suc k))))
          → Comes s (walked (suc n) s (frame_place k) run)
      go End q IH = subst (Comes s) (sym (walked_end (suc n) s (frame_place k) run (there End q))) (λ g m. at_last k F (end s (frame_place k) (there End q)) m)
      go (Refused refusal) q IH =
          subst (Comes s) (sym (here (Refused refusal) q)) (stopped_comes s n (frame_place k) (came_as (Refused refusal) run s) (refused_stops run s refusal))
      go (Order start' asked' allowed' next) q IH =
          subst (Comes s) (sym (here (Order start' asked' allowed' next) q))
          (stopped_comes s n (frame_place k + next) (came_as (Order start' asked' allowed' (frame_place k + next)) run s) refl)
      go (Frame number from next) q IH =
          subst (Comes s) (sym (here (Frame number from next) q))
          (frame number from next q (next_or_lost start asked allowed (frames_in s) k number (frames_in s k) (found s B k number from next q).0) IH)

-- from the first record on: an order, or nothing is measured
from_order : (s : List ℕ) → AllBytes s → (n : ℕ) → length s ≤ n → Comes s (walked n s 0 begun)
unfolding walked goes_on came_as frame_came frame_records
from_order s B zero h = λ g m. absurd (false≢true g)
from_order s B (suc n) h = go (read_at s 0) refl
  where
    go : (r : Read) → read_at s 0 ≡ r → Comes s (walked (suc n) s 0 begun)
    go End q = subst (Comes s) (sym (walked_end (suc n) s 0 begun q)) (λ g m. absurd (false≢true g))
    go (Refused refusal) q =
        subst (Comes s) (sym (walked_one n s 0 begun (Refused refusal) q))
        (stopped_comes s n 0 (came_as (Refused refusal) begun s) (refused_stops begun s refusal))
    go (Frame number from next) q =
        subst (Comes s) (sym (walked_one n s 0 begun (Frame number from next) q)) (stopped_comes s n next (came_as (Frame number from next) begun s) refl)
    go (Order start asked allowed next) q =
        let O = records.order_found s start asked allowed next B q in
        let at : next ≡ frame_place 0 = O.3 in
        subst (Comes s) (sym (walked_one n s 0 begun (Order start asked allowed next) q
        ∙ (λ i. walked n s (at i) (ordered_first start asked allowed (frames_in s) O.0 s next i))))
        (back s B start asked allowed O.0 O.1 O.2 n 0 (omega arith)
        (record {
          within = omega arith;
          whole = λ j l. absurd (omega arith);
          locked = λ j l. absurd (omega arith);
          capture = O.4 ∙ ap (λ (i : ℕ). order_record start asked allowed ++ drop i s) at;
        }))

pub measured_back : (s : List ℕ) → AllBytes s → goes_on (examined s).phase ≡ true → measured (examined s).asked (examined s).account ≡ true
    → Measured s
unfolding examined
measured_back s B = from_order s B (length s) (omega arith)
