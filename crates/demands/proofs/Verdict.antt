-- PASS exactly if, FAIL exactly if, and NOT MEASURED else, over every byte string and carried to the text; and what they mean to an examiner.
-- Assumes nothing.
use mathlib.Core.Path.{◌≡◌, refl, sym, ap, ◌∙◌, subst}
use mathlib.Core.Bool.{Bool, true, false, cond, not, false≢true}
use mathlib.Core.Logic.{◌≢◌, ◌⊎◌, inl, inr, ◌↔◌}
use mathlib.Core.List.{List, [], ◌∷◌, ◌++◌, append_assoc, append-nil}
use Prim.Native.Nat.{ℕ, zero, suc, ◌+◌, ◌*◌, ◌^◌, ◌≤◌, ◌<◌}
use Prim.Native.String.{String}
use native.Mathlib.Decide.{dec_lt}
use native.Mathlib.Omega.{arith}
use lib.Dec.{leb}
use lib.ListN.{length, get_or, take, drop, length-append}
use lib.Seq.{take-append_seam, take-length, drop_at}
use borrow.Author.Tests.{le-leb, lt-leb}
use Rattle.bits.specs.definitions.Bits.{tabulate, AllBytes}
use Rattle.pilots.specs.definitions.Pilots.{locks}
use Rattle.account.specs.declared.Verdict.{Verdict}
use Rattle.account.specs.declared.Verdict.TheVariants.{NotMeasured, Pass, Fail}
use Rattle.account.specs.definitions.Account.{total, frame_limit, verdict, verdict_number}
use Rattle.account.proofs.Totals.{opened_in_turn}
use Rattle.account.proofs.VerdictMeaning.{MeasuredNumbers, measured_by, judged, passed, failed}
use Rattle.capture.specs.definitions.Read.{Read}
use Rattle.capture.specs.definitions.Read.{End, Refused, Order, Frame}
use Rattle.capture.specs.definitions.Capture.{layout, read_at, shifted, symbols_at, order_record, frame_record, frame_number, frame_records}
use Rattle.capture.proofs.Cases.{at_end}
use Rattle.capture.proofs.Local.{reads_from_here}
use Rattle.capture.proofs.Records.{records}
use Rattle.bench.specs.declared.Run.{Run}
use Rattle.bench.specs.declared.Phase.TheVariants.{Stopped}
use Rattle.bench.specs.definitions.Run.{begun, stopped, stepped, goes_on, verdict_of}
use Rattle.bench.specs.definitions.Walk.{examined, pieces, through}
use Rattle.report.specs.definitions.Report.{ascii, verdict_name, text, written_bytes, written}
use Rattle.bench.proofs.Walk.{pieces_alike, none_left}
use Rattle.demands.specs.definitions.Verdict.{Measured, measured_run, flagged_words, Stepwise, Examination, Line, Arrived}
use Rattle.demands.specs.statements.Verdict.{PassExactly, FailExactly, NotMeasuredExactly, ProgramSays, MeasuredOnce, ExaminationsExist, ArrivedAlways}
use Rattle.demands.specs.statements.Verdict.{NeverPass, OneNotMeasured, AllCounted, AlwaysCounted}
use Rattle.demands.proofs.Measured.{all_in_turn, walked_counted, ordered_few}
use Rattle.demands.proofs.Walked.{frame_place, frames_in, found, whole_symbols, ends_inside, record_there, up_to, measured_run_lem, measured_back}
use Rattle.demands.proofs.Lines.{text_lines, verdict_said}

-- ---- the verdict of a run

module _ (s : List ℕ) (B : AllBytes s) where
  -- a verdict other than NOT MEASURED is given to a measured capture, by its flagged words
  told : (v : Verdict) → verdict_of (examined s) ≡ v → verdict_number v ≢ 0 → (m : Measured s) × (cond (leb (flagged_words m) m.allowed) Pass Fail ≡ v)
  unfolding verdict_of
  told v e n =
      let J = judged (examined s).asked (examined s).allowed (examined s).account (not (goes_on (examined s).phase)) v e n in
      let m = measured_back s B (on (goes_on (examined s).phase) J.0) J.1 in
      (m, ap (λ (r : Run). cond (leb r.account.words.flagged r.allowed) Pass Fail) (sym (measured_run_lem s m)) ∙ J.2)
    where
      on : (g : Bool) → not g ≡ false → g ≡ true
      on true e = refl
      on false e = sym e

-- and a measured capture is given one
module _ (s : List ℕ) (m : Measured s) where
  all_but_fill : total (measured_run m).account.words + 448 ≡ 384 * m.asked
  all_but_fill = (all_in_turn m.start m.frames m.numbers.0 m.asked m.within).totals.exactly refl m.at_least_two

  numbers : MeasuredNumbers m.asked (measured_run m).account
  numbers = record { at_least_two = m.at_least_two; all = refl; none_missing = refl; right = all_but_fill }

  given : verdict_of (examined s) ≡ cond (leb (flagged_words m) m.allowed) Pass Fail
  unfolding verdict_of verdict goes_on
  given =
      ap verdict_of (measured_run_lem s m)
      ∙ ap (λ (b : Bool). cond b (cond (leb (flagged_words m) m.allowed) Pass Fail) NotMeasured)
      (sym (measured_by m.asked (measured_run m).account numbers))

-- so each verdict is given exactly where it is due
pub passes : (s : List ℕ) → AllBytes s → (verdict_of (examined s) ≡ Pass) ↔ ((m : Measured s) × (flagged_words m ≤ m.allowed))
unfolding verdict_number
passes s B = (
  λ e. let T = told s B Pass e (λ (z : ◌≡◌ {A = ℕ} 1 0). omega arith) in (T.0, passed (flagged_words T.0) T.0.allowed T.1),
  λ (m, h). given s m ∙ ap (λ (b : Bool). cond b Pass Fail) (le-leb (flagged_words m) m.allowed h),
)

pub fails : (s : List ℕ) → AllBytes s → (verdict_of (examined s) ≡ Fail) ↔ ((m : Measured s) × (m.allowed < flagged_words m))
unfolding verdict_number
fails s B = (
  λ e. let T = told s B Fail e (λ (z : ◌≡◌ {A = ℕ} 2 0). omega arith) in (T.0, failed (flagged_words T.0) T.0.allowed T.1),
  λ (m, h). given s m ∙ ap (λ (b : Bool). cond b Pass Fail) (lt-leb (flagged_words m) m.allowed h),
)

-- neither PASS nor FAIL
one_or_other : (b : Bool) → cond b Pass Fail ≡ NotMeasured → ⊥
unfolding verdict_number
one_or_other true e = let z : ◌≡◌ {A = ℕ} 1 0 = ap verdict_number e in absurd (omega arith)
one_or_other false e = let z : ◌≡◌ {A = ℕ} 2 0 = ap verdict_number e in absurd (omega arith)

pub unmeasured : (s : List ℕ) → AllBytes s → (verdict_of (examined s) ≡ NotMeasured) ↔ (Measured s → ⊥)
unfolding verdict_number
unmeasured s B = (λ e m. one_or_other (leb (flagged_words m) m.allowed) (sym (given s m) ∙ e), λ n. go n (verdict_of (examined s)) refl)
  where
    go : (Measured s → ⊥) → (v : Verdict) → verdict_of (examined s) ≡ v → verdict_of (examined s) ≡ NotMeasured
    go n NotMeasured e = e
    go n Pass e = absurd (n (told s B Pass e (λ (z : ◌≡◌ {A = ℕ} 1 0). omega arith)).0)
    go n Fail e = absurd (n (told s B Fail e (λ (z : ◌≡◌ {A = ℕ} 2 0). omega arith)).0)

-- ---- record by record

-- runs that follow one another by steps come to what stepping through comes to
stepwise : (ps : List (List ℕ)) (runs : ℕ → Run) → ((k : ℕ) → k < length ps → runs (suc k) ≡ stepped (runs k) (get_or ps k []))
    → through (runs 0) ps ≡ runs (length ps)
unfolding through
stepwise [] runs call = refl
stepwise (p ∷ ps) runs call =
    ap (λ (run : Run). through run ps) (sym (call 0 (omega arith))) ∙ stepwise ps (λ k. runs (suc k)) (λ k l. call (suc k) (omega arith))

-- the runs on the way
pub on_the_way : (ps : List (List ℕ)) (run : Run) (k : ℕ) → k < length ps → through run (take (suc k) ps) ≡ stepped (through run (take k ps)) (get_or ps k [])
unfolding through
on_the_way [] run k h = absurd (omega arith)
on_the_way (p ∷ ps) run zero h = refl
on_the_way (p ∷ ps) run (suc k) h = on_the_way ps (stepped run p) k (omega arith)

steps_exist : (s : List ℕ) → Stepwise s (examined s)
unfolding through
steps_exist s =
    record {
      runs = λ k. through begun (take k (pieces s));
      first = refl;
      call = λ k h. on_the_way (pieces s) begun k h;
      last = sym (ap (through begun) (take-length (pieces s)) ∙ pieces_alike s);
    }

-- ---- the report

-- a line that says a verdict stands in a run's text exactly if it is the run's verdict
module _ (r : Run) (line : String) (v : Verdict) (says : ascii line ≡ ascii "verdict " ++ verdict_name v) where
  line_said : Line line (text r) → verdict_of r ≡ v
  line_said L =
      verdict_said r v L.place (subst (λ (ls : List (List ℕ)). L.place < length ls) (text_lines r) L.inside)
      (ap (λ (ls : List (List ℕ)). get_or ls L.place []) (sym (text_lines r)) ∙ L.is ∙ says)

  line_stands : verdict_of r ≡ v → Line line (text r)
  line_stands e =
      record {
        place = 7;
        inside = rw (text_lines r) (omega arith);
        is = ap (λ (ls : List (List ℕ)). get_or ls 7 []) (text_lines r) ∙ ap (λ (w : Verdict). ascii "verdict " ++ verdict_name w) e ∙ sym says;
      }

run_is : (s : List ℕ) (r : Run) → (r ≡ examined s) ⊎ Stepwise s r → r ≡ examined s
run_is s r (inl e) = e
run_is s r (inr S) =
    S.last ∙ sym (stepwise (pieces s) S.runs S.call) ∙ ap (λ (run : Run). through run (pieces s)) S.first ∙ pieces_alike s

module _ (s report : List ℕ) (R : Examination s report) where
  report_is : report ≡ text (examined s)
  unfolding written_bytes written
  report_is =
      R.printed
      ∙ (λ i. take (R.answered i) (R.left i))
      ∙ whole (leb (length (text R.run)) (length R.buffer)) (le-leb (length (text R.run)) (length R.buffer) R.holds)
      ∙ ap text (run_is s R.run R.walk)
    where
      whole : (b : Bool) → b ≡ true
          → take (cond b (length (text R.run)) 0) (cond b (text R.run ++ drop (length (text R.run)) R.buffer) R.buffer) ≡ text R.run
      whole true e = take-append_seam (text R.run) (drop (length (text R.run)) R.buffer)
      whole false e = absurd (false≢true e)

  module _ (line : String) (v : Verdict) (says : ascii line ≡ ascii "verdict " ++ verdict_name v) where
    said : Line line report → verdict_of (examined s) ≡ v
    said L = line_said (examined s) line v says (subst (Line line) report_is L)

    stands : verdict_of (examined s) ≡ v → Line line report
    stands e = subst (Line line) (sym report_is) (line_stands (examined s) line v says e)

    -- what a verdict means, it means in the report
    carried : {X : Type 0} → (verdict_of (examined s) ≡ v) ↔ X → Line line report ↔ X
    carried means = (λ L. means.0 (said L), λ x. stands (means.1 x))

pub pass_exactly : PassExactly
unfolding verdict_name tabulate
pass_exactly s report B R = carried s report R "verdict PASS" Pass refl (passes s B)

pub fail_exactly : FailExactly
unfolding verdict_name tabulate
fail_exactly s report B R = carried s report R "verdict FAIL" Fail refl (fails s B)

pub not_measured_exactly : NotMeasuredExactly
unfolding verdict_name tabulate
not_measured_exactly s report B R = carried s report R "verdict NOT MEASURED" NotMeasured refl (unmeasured s B)

pub one_not_measured : OneNotMeasured
unfolding verdict_name tabulate examined
one_not_measured s report start asked allowed next E e h =
    stands s report E "verdict NOT MEASURED" NotMeasured refl (ordered_few s start asked allowed next e h (length s))

-- a run that was stopped
pub stopped_unmeasured : (r : Run) → r.phase ≡ Stopped → verdict_of r ≡ NotMeasured
unfolding verdict_of goes_on verdict
stopped_unmeasured r e = rw e refl

pub stopped_says : (r : Run) → Line "verdict NOT MEASURED" (text (stopped r))
unfolding verdict_name tabulate
stopped_says r = line_stands (stopped r) "verdict NOT MEASURED" NotMeasured refl (stopped_unmeasured (stopped r) refl)

-- the report of the capture's run, in a buffer that holds it
pub examination : (s : List ℕ) (r : Run) → r ≡ examined s → (buffer : List ℕ) → length (text r) ≤ length buffer
    → Examination s (take (written_bytes r buffer) (written r buffer))
examination s r e buffer h =
    record {
      run = r;
      walk = inl e;
      buffer = buffer;
      out = written r buffer;
      bytes = written_bytes r buffer;
      holds = h;
      answered = refl;
      left = refl;
      printed = refl;
    }

pub program_says : ProgramSays
unfolding verdict_name tabulate
program_says s =
    let r = examined s in
    let e = examination s r refl (text r) (omega arith) in
    (subst (Examination s) (report_is s _ e) e, stopped_says r)

pub examinations_exist : ExaminationsExist
unfolding examination
examinations_exist s =
    (steps_exist s, λ buffer h. (take (written_bytes (examined s) buffer) (written (examined s) buffer), examination s (examined s) refl buffer h, refl))

pub all_counted : AllCounted
all_counted s report B E L =
    let P = (pass_exactly s report B E).0 L in
    let e = measured_run_lem s P.0 in
    (P.0, e, report_is s report E ∙ ap text e, all_but_fill s P.0)

-- ---- a capture as it may come

-- the numbers that are read: of an order its three, of a frame its own
abbrev numbers_read : Read → ℕ × ℕ × ℕ
numbers_read End = (0, 0, 0)
numbers_read (Refused refusal) = (0, 0, 0)
numbers_read (Order start asked allowed next) = (start, asked, allowed)
numbers_read (Frame number from next) = (number, 0, 0)

-- whether a frame is read
abbrev is_frame : Read → Bool
is_frame End = false
is_frame (Refused refusal) = false
is_frame (Order start asked allowed next) = false
is_frame (Frame number from next) = true

frame_shifted : (i : ℕ) (r : Read) → is_frame (shifted i r) ≡ is_frame r
unfolding shifted
frame_shifted i End = refl
frame_shifted i (Refused refusal) = refl
frame_shifted i (Order start asked allowed next) = refl
frame_shifted i (Frame number from next) = refl

no_frame : (r : Read) → ((number from next : ℕ) → r ≢ Frame number from next) → is_frame r ≡ false
no_frame End h = refl
no_frame (Refused refusal) h = refl
no_frame (Order start asked allowed next) h = refl
no_frame (Frame number from next) h = absurd (h number from next refl)

-- what is read of it
module _ (s : List ℕ) (a : Arrived s) where
  order_there : numbers_read (read_at s 0) ≡ (a.start, a.asked, a.allowed)
  order_there =
      ap (λ (x : List ℕ). numbers_read (read_at x 0)) a.capture
      ∙ ap numbers_read (records.order_reads a.start a.asked a.allowed (frame_records a.numbers a.frames a.n ++ a.rest) a.small.0
      a.small.1 a.small.2)

  frame_there : (k : ℕ) → k < a.n
      → (read_at s (frame_place k) ≡ Frame (a.numbers k) (frame_place k + layout.symbols_from) (frame_place k + layout.frame_bytes))
      × (symbols_at s (frame_place k + layout.symbols_from) ≡ a.frames k)
  frame_there k h =
      let R = records.frames_read a.n a.numbers a.frames (order_record a.start a.asked a.allowed) a.rest a.whole k (frame_place k) h
      (let o = records.record_lengths.0 a.start a.asked a.allowed in omega arith) in (
        ap (λ (x : List ℕ). read_at x (frame_place k)) a.capture ∙ R.0,
        ap (λ (x : List ℕ). symbols_at x (frame_place k + layout.symbols_from)) a.capture
            ∙ R.1,
      )

  frames_long : length (frame_records a.numbers a.frames a.n) ≡ a.n * layout.frame_bytes
  frames_long = records.record_lengths.2 a.n a.numbers a.frames (λ k l. (a.whole k l).1)

  length_there : length s ≡ frame_place a.n + length a.rest
  length_there =
      ap length a.capture ∙ length-append (order_record a.start a.asked a.allowed) (frame_records a.numbers a.frames a.n ++ a.rest)
      ∙ (let o = records.record_lengths.0 a.start a.asked a.allowed in
      let f = frames_long in
      let both : length (frame_records a.numbers a.frames a.n ++ a.rest)
      ≡ length (frame_records a.numbers a.frames a.n) + length a.rest =
      length-append (frame_records a.numbers a.frames a.n) a.rest in omega arith)

  -- behind the frames stands none
  rest_there : is_frame (read_at s (frame_place a.n)) ≡ false
  rest_there =
      ap is_frame (reads_from_here s (frame_place a.n)) ∙ frame_shifted (frame_place a.n) (read_at (drop (frame_place a.n) s) 0)
      ∙ ap (λ (x : List ℕ). is_frame (read_at x 0)) behind ∙ no_frame (read_at a.rest 0) a.no_frame
    where
      behind : drop (frame_place a.n) s ≡ a.rest
      behind =
          ap (drop (frame_place a.n))
          (a.capture ∙ sym (append_assoc (order_record a.start a.asked a.allowed) (frame_records a.numbers a.frames a.n) a.rest))
          ∙ drop_at (order_record a.start a.asked a.allowed ++ frame_records a.numbers a.frames a.n) a.rest (frame_place a.n)
          (length-append (order_record a.start a.asked a.allowed) (frame_records a.numbers a.frames a.n)
          ∙ (let o = records.record_lengths.0 a.start a.asked a.allowed in let f = frames_long in omega arith))

-- one capture comes in one way
not_fewer : (s : List ℕ) (a b : Arrived s) → a.n < b.n → ⊥
not_fewer s a b h = false≢true (sym (rest_there s a) ∙ ap is_frame (frame_there s b a.n h).0)

as_many : (s : List ℕ) (a b : Arrived s) → a.n ≡ b.n
as_many s a b = go (dec_lt a.n b.n) (dec_lt b.n a.n)
  where
    go : Dec (a.n < b.n) → Dec (b.n < a.n) → a.n ≡ b.n
    go (yes h) k = absurd (not_fewer s a b h)
    go (no h) (yes k) = absurd (not_fewer s b a k)
    go (no h) (no k) = omega arith

same_order : (s : List ℕ) (a b : Arrived s) → ◌≡◌ {A = ℕ × ℕ × ℕ} (a.start, a.asked, a.allowed) (b.start, b.asked, b.allowed)
same_order s a b = sym (order_there s a) ∙ order_there s b

same_frame : (s : List ℕ) (a b : Arrived s) (k : ℕ) → k < a.n → k < b.n → (a.numbers k ≡ b.numbers k) × (a.frames k ≡ b.frames k)
same_frame s a b k h l =
    (ap (λ (r : Read). (numbers_read r).0) (sym (frame_there s a k h).0 ∙ (frame_there s b k l).0), sym (frame_there s a k h).1 ∙ (frame_there s b k l).1)

-- a measured capture came so
abbrev of_measured : (s : List ℕ) → Measured s → Arrived s
of_measured s m =
    record {
      start = m.start;
      asked = m.asked;
      allowed = m.allowed;
      n = m.asked;
      numbers = frame_number m.start;
      frames = m.frames;
      rest = [];
      small = m.numbers;
      whole = λ k h. (omega arith, m.whole k h);
      no_frame = λ number from next e. false≢true (ap is_frame (at_end [] 0 (omega arith) ∙ e));
      capture =
          m.capture ∙ ap (λ (l : List ℕ). order_record m.start m.asked m.allowed ++ l)
          (sym (append-nil (frame_records (frame_number m.start) m.frames m.asked)));
    }

pub measured_once : MeasuredOnce
measured_once s m n =
    let e = same_order s (of_measured s m) (of_measured s n) in
    let asked : m.asked ≡ n.asked = ap (λ (t : ℕ × ℕ × ℕ). t.1) e in (
      ap (λ (t : ℕ × ℕ × ℕ). t.0) e,
      asked,
      ap (λ (t : ℕ × ℕ × ℕ). t.2) e,
      λ k h. (same_frame s (of_measured s m) (of_measured s n) k h (omega arith)).1,
    )

-- ---- never PASS

module _ (s report : List ℕ) (B : AllBytes s) (E : Examination s report) (a : Arrived s) (L : Line "verdict PASS" report) where
  abbrev m : Measured s
  m = ((pass_exactly s report B E).0 L).0

  all_came : a.n ≡ m.asked
  all_came = as_many s a (of_measured s m)

  asked_is : a.asked ≡ m.asked
  asked_is = ap (λ (t : ℕ × ℕ × ℕ). t.1) (same_order s a (of_measured s m))

  number_due : (k : ℕ) → k < a.n → a.numbers k ≡ frame_number a.start k
  number_due k h =
      (same_frame s a (of_measured s m) k h (let e = all_came in omega arith)).0
      ∙ ap (λ (x : ℕ). frame_number x k) (sym (ap (λ (t : ℕ × ℕ × ℕ). t.0) (same_order s a (of_measured s m))))

  nothing_more : a.rest ≡ []
  nothing_more = none_left 0 a.rest (let l = length_there s a in let k = length_there s (of_measured s m) in let e = all_came in omega arith)

  each_locks : (k : ℕ) → k < a.n → locks (a.frames k) 0 ≡ true
  each_locks k h =
      let l : k < m.asked = (let e = all_came in omega arith) in ap (λ (f : List ℕ). locks f 0) (same_frame s a (of_measured s m) k h l).1 ∙ m.locked k l

  few : a.n ≤ frame_limit
  few = let w = m.within in let e = all_came in omega arith

-- numbers in their turn differ
numbers_differ : (start j k : ℕ) → j < k → k < 2 ^ 32 → frame_number start j ≢ frame_number start k
numbers_differ start j k h l e = omega arith

pub never_pass : NeverPass
never_pass =
    record {
      missing =
          λ s report B E a i h none L. none i (let e = all_came s report B E a L in let f = asked_is s report B E a L in omega arith)
          (number_due s report B E a L i (let e = all_came s report B E a L in let f = asked_is s report B E a L in omega arith));
      doubled =
          λ s report B E a j k h l e L. numbers_differ a.start j k h (let f = few s report B E a L in omega arith)
          (sym (number_due s report B E a L j (omega arith)) ∙ e ∙ number_due s report B E a L k l);
      out_of_order = λ s report B E a k h n L. n (number_due s report B E a L k h);
      cut = λ s report B E a n L. n (nothing_more s report B E a L);
      unlocked = λ s report B E a k h n L. false≢true (sym n ∙ each_locks s report B E a L k h);
      one = λ s report B E a e L. let l = ((pass_exactly s report B E).0 L).0.at_least_two in let f = asked_is s report B E a L in omega arith;
    }

-- ---- every capture that begins with an order

number_in : List ℕ → ℕ → ℕ
number_in s k = (numbers_read (read_at s (frame_place k))).0

-- so far it is an order and k frames
record Prefix (s : List ℕ) (start asked allowed k : ℕ) : Type 0 where
  pub whole : (j : ℕ) → j < k → (number_in s j < 2 ^ 32) × (length (frames_in s j) ≡ layout.symbols)
  pub capture : s ≡ order_record start asked allowed ++ (frame_records (number_in s) (frames_in s) k ++ drop (frame_place k) s)

module _ (s : List ℕ) (B : AllBytes s) (start asked allowed : ℕ) (small : (start < 2 ^ 32) × (asked < 2 ^ 32) × (allowed < 2 ^ 32)) where
  no_more : (k : ℕ) → Prefix s start asked allowed k → ((number from next : ℕ) → read_at (drop (frame_place k) s) 0 ≢ Frame number from next) → Arrived s
  no_more k P h =
      record {
        start = start;
        asked = asked;
        allowed = allowed;
        n = k;
        numbers = number_in s;
        frames = frames_in s;
        rest = drop
            (frame_place k) s;
        small = small;
        whole = P.whole;
        no_frame = h;
        capture = P.capture;
      }

  one_frame : (k number from next : ℕ) → Prefix s start asked allowed k → read_at (drop (frame_place k) s) 0 ≡ Frame number from next
      → Prefix s start asked allowed (suc k)
  unfolding frame_records shifted number_in
  one_frame k number from next P e =
      let is : number_in s k ≡ number = ap (λ (r : Read). (numbers_read r).0) (reads_from_here s (frame_place k) ∙ ap (shifted (frame_place k)) e) in
      record {
        whole = up_to k P.whole (rw is (found s B k number from next e).0, whole_symbols s B k number from next e);
        capture =
            P.capture
            ∙ ap (λ (x : List ℕ). order_record start asked allowed ++ x)
            (ap (λ (x : List ℕ). frame_records (number_in s) (frames_in s) k ++ x)
            (record_there s B k number from next e ∙ ap (λ (x : ℕ). frame_record x (frames_in s k) ++ drop (frame_place (suc k)) s) (sym is))
            ∙ sym (append_assoc (frame_records (number_in s) (frames_in s) k) (frame_record (number_in s k) (frames_in s k)) (drop (frame_place (suc k)) s)));
      }

  -- a frame or none
  by_read : (k : ℕ) (r : Read) → read_at (drop (frame_place k) s) 0 ≡ r → Prefix s start asked allowed k
      → ((number from next : ℕ) → read_at (drop (frame_place k) s) 0 ≡ Frame number from next → Arrived s) → Arrived s
  by_read k End e P more = no_more k P (λ number from next z. false≢true (ap is_frame (sym e ∙ z)))
  by_read k (Refused refusal) e P more = no_more k P (λ number from next z. false≢true (ap is_frame (sym e ∙ z)))
  by_read k (Order x y w after) e P more = no_more k P (λ number from next z. false≢true (ap is_frame (sym e ∙ z)))
  by_read k (Frame number from next) e P more = more number from next e

  arrives : (m k : ℕ) → length s ≤ frame_place k + m → Prefix s start asked allowed k → Arrived s
  arrives zero k h P =
      by_read k (read_at (drop (frame_place k) s) 0) refl P (λ number from next e. absurd (let i = ends_inside s B k number from next e in omega arith))
  arrives (suc m) k h P =
      by_read k (read_at (drop (frame_place k) s) 0) refl P (λ number from next e. arrives m (suc k) (omega arith) (one_frame k number from next P e))

pub arrived_always : ArrivedAlways
unfolding frame_records
arrived_always s start asked allowed next B e =
    let O = records.order_found s start asked allowed next B e in
    let at : next ≡ frame_place 0 = O.3 in
    arrives s B start asked allowed (O.0, O.1, O.2) (length s) 0 (omega arith)
    (record { whole = λ j l. absurd (omega arith); capture = O.4 ∙ ap (λ (i : ℕ). order_record start asked allowed ++ drop i s) at })

pub always_counted : AlwaysCounted
unfolding examined
always_counted s = (walked_counted (length s) s 0 begun (opened_in_turn 0)).totals
