-- Demand 2: PASS is given exactly if the frames ordered, at least two (02, request 02), and no others were measured, no record was refused, no second order
-- came, and flagged words, of those tallied, keep within the allowance; and what an examiner may read from a report. Over every byte string; `proofs/Verdict`
-- proves each, `proofs/Numbers` the last.
-- Assumes nothing.
use Rattle.std.specs.Prelude.{◌≡◌, true, false, ◌≢◌, ◌⊎◌, ◌↔◌, List, [], ℕ, ◌+◌, ◌*◌, ◌≤◌, ◌<◌, length}
use Rattle.bits.specs.definitions.Bits.{AllBytes}
use Rattle.pilots.specs.definitions.Pilots.{locks}
use Rattle.account.specs.definitions.Account.{total}
use Rattle.account.specs.definitions.Kept.{Totals}
use Rattle.capture.specs.definitions.Read.{Order}
use Rattle.capture.specs.definitions.Capture.{read_at, more, frame_number}
use Rattle.bench.specs.declared.Run.{Run}
use Rattle.bench.specs.definitions.Run.{is_stopped, step_refusal}
use Rattle.bench.specs.definitions.Walk.{examined, followed}
use Rattle.report.specs.definitions.Report.{text}
use Rattle.demands.specs.definitions.Verdict.{Measured, measured_run, flagged_words, Stepwise, Examination, Line, Arrived}

-- PASS exactly if what was ordered was measured and flagged words are at most those allowed
abbrev pub PassExactly : Type 0
PassExactly = (s report : List ℕ) → AllBytes s → Examination s report → Line "verdict PASS" report ↔ ((m : Measured s) × (flagged_words m ≤ m.allowed))

-- FAIL exactly if it was measured and there are more
abbrev pub FailExactly : Type 0
FailExactly = (s report : List ℕ) → AllBytes s → Examination s report → Line "verdict FAIL" report ↔ ((m : Measured s) × (m.allowed < flagged_words m))

-- everything else is NOT MEASURED
abbrev pub NotMeasuredExactly : Type 0
NotMeasuredExactly = (s report : List ℕ) → AllBytes s → Examination s report → Line "verdict NOT MEASURED" report ↔ (Measured s → ⊥)

-- The program: the run that it comes to over the bytes s is examined as above; and where a read failed, whatever went before it, the report says NOT MEASURED.
-- That s is what the input brought is read off the program and no theorem (docs/TRUST.md)
abbrev pub ProgramSays : Type 0
ProgramSays = (s : List ℕ) → Examination s (text (followed s false)) × Line "verdict NOT MEASURED" (text (followed s true))

-- no capture has two meanings: what was ordered, and the symbols, are those that the bytes say
abbrev pub MeasuredOnce : Type 0
MeasuredOnce =
    (s : List ℕ) (m n : Measured s)
    → (m.start ≡ n.start) × (m.asked ≡ n.asked) × (m.allowed ≡ n.allowed) × ((k : ℕ) → k < m.asked → m.frames k ≡ n.frames k)

-- every capture can be examined, by either walk and into any buffer that holds the report
abbrev pub ExaminationsExist : Type 0
ExaminationsExist =
    (s : List ℕ)
    → Stepwise s (examined s)
    × ((buffer : List ℕ) → length (text (examined s)) ≤ length buffer → (report : List ℕ) × (e : Examination s report) × (e.buffer ≡ buffer))

-- every capture that begins with an order is one of these
abbrev pub ArrivedAlways : Type 0
ArrivedAlways = (s : List ℕ) (start asked allowed next : ℕ) → AllBytes s → read_at s 0 ≡ Order start asked allowed next → Arrived s

-- For the examiner: a capture with a frame missing, doubled, out of order, cut or unlocked, or with an order for one frame, is never PASS
pub record NeverPass : Type 0 where
  -- the number of a frame that was ordered is not among those that came
  pub missing : (s report : List ℕ) → AllBytes s → Examination s report → (a : Arrived s)
      → (i : ℕ) → i < a.asked → ((k : ℕ) → k < a.n → a.numbers k ≢ frame_number a.start i) → Line "verdict PASS" report → ⊥
  -- two frames came with one number
  pub doubled : (s report : List ℕ) → AllBytes s → Examination s report → (a : Arrived s)
      → (j k : ℕ) → j < k → k < a.n → a.numbers j ≡ a.numbers k → Line "verdict PASS" report → ⊥
  -- a frame came with another number than the next
  pub out_of_order : (s report : List ℕ) → AllBytes s → Examination s report → (a : Arrived s)
      → (k : ℕ) → k < a.n → a.numbers k ≢ frame_number a.start k → Line "verdict PASS" report → ⊥
  -- behind the frames stands something more: a frame cut short, a second order, any bytes
  pub cut : (s report : List ℕ) → AllBytes s → Examination s report → (a : Arrived s) → a.rest ≢ [] → Line "verdict PASS" report → ⊥
  -- a frame does not lock
  pub unlocked : (s report : List ℕ) → AllBytes s → Examination s report → (a : Arrived s)
      → (k : ℕ) → k < a.n → locks (a.frames k) 0 ≡ false → Line "verdict PASS" report → ⊥
  -- one frame was ordered
  pub one : (s report : List ℕ) → AllBytes s → Examination s report → (a : Arrived s) → a.asked ≡ 1 → Line "verdict PASS" report → ⊥

-- An order for one frame, or for none, is always NOT MEASURED, whatever follows it (02, request 02)
abbrev pub OneNotMeasured : Type 0
OneNotMeasured =
    (s report : List ℕ) (start asked allowed next : ℕ) → Examination s report → read_at s 0 ≡ Order start asked allowed next → asked < 2
    → Line "verdict NOT MEASURED" report

-- For the examiner: PASS means that every ordered frame's 384 words were counted, but for the run's 448 that carry fill. The report is that of as many frames
-- accepted as asked for, none missing, and, of their words free of fill, those with each flag
abbrev pub AllCounted : Type 0
AllCounted =
    (s report : List ℕ) → AllBytes s → Examination s report → Line "verdict PASS" report
    → (m : Measured s) × (examined s ≡ measured_run m) × (report ≡ text (measured_run m)) × (total (measured_run m).account.words + 448 ≡ 384 * m.asked)

-- and whatever the verdict, the four tallies that the report shows and 448 total 384 times the accepted frames where none is missing and at least two are
-- accepted; one alone shows none; and whatever is missing, it is that product less 0, 64, 384 or 448
abbrev pub AlwaysCounted : Type 0
AlwaysCounted = (s : List ℕ) → Totals (examined s).account

-- the numbers by which a record stops a run: 6 to 11, and 22, which is given exactly where a record stands in the bytes and more behind it, before 10 and 11:
-- nothing is entered then. 12 never comes, since a frame that was received brings the words that are due to it
abbrev pub StepNumbers : Type 0
StepNumbers =
    (r : Run) (s : List ℕ)
    → ((step_refusal r s ≡ 0) ⊎ (((6 ≤ step_refusal r s) × (step_refusal r s ≤ 11)) ⊎ (step_refusal r s ≡ 22)))
    × (is_stopped r.phase ≡ false → (step_refusal r s ≡ 22) ↔ (more (read_at s 0) (length s) ≡ true))
