-- Calls from C: a capture stepped through comes to the capture's run, and so to its verdict and its report, and whatever bytes are stepped through, none is
-- passed over.
-- Assumes nothing.
use mathlib.Core.Path.{◌≡◌, refl, sym, ap, ◌∙◌, subst}
use mathlib.Core.Bool.{true}
use mathlib.Core.Logic.{◌⊎◌, inl, inr, ◌↔◌}
use mathlib.Core.List.{List, [], ◌∷◌}
use Prim.Native.Nat.{ℕ, zero, suc, ◌<◌, ◌≤◌}
use native.Mathlib.Omega.{arith}
use lib.ListN.{length, get_or, take, drop}
use lib.Seq.{take-length}
use Rattle.bits.specs.definitions.Bits.{AllBytes}
use Rattle.account.specs.declared.Verdict.{Verdict}
use Rattle.account.specs.declared.Verdict.TheVariants.{NotMeasured, Pass, Fail}
use Rattle.account.specs.definitions.Account.{verdict_number}
use Rattle.bench.specs.declared.Run.{Run as Bench}
use Rattle.bench.specs.declared.Phase.{Phase}
use Rattle.bench.specs.declared.Phase.TheVariants.{Unordered, Going, Stopped}
use Rattle.bench.specs.definitions.Run.{begun, stopped, is_stopped, stepped, step_refusal, verdict_of}
use Rattle.bench.specs.definitions.Walk.{pieces, through, joined, examined}
use Rattle.bench.proofs.Stops.{is_stopped_lem}
use Rattle.bench.proofs.Walk.{through_stays, pieces_alike, nothing_passed_over}
use Rattle.report.specs.definitions.Report.{text}
use Rattle.adderbloom.specs.declared.runs.Run.{Run}
use Rattle.adderbloom.specs.definitions.Run.{Answer}
use Rattle.adderbloom.specs.definitions.Run.{phase_number, phase_of, run_of, kept_run, step_answer}
use Rattle.demands.specs.definitions.Verdict.{Line}
use Rattle.demands.specs.definitions.Host.{VerdictDue, Hosted}
use Rattle.demands.specs.statements.Host.{HostedRun, HostedVerdict, HostedReport, HostedExists, NothingDropped, StoppedVerdict, ExaminedVerdict}
use Rattle.demands.specs.statements.Host.{ExaminedReport}
use Rattle.demands.proofs.Verdict.{passes, fails, unmeasured, on_the_way, examination, stopped_unmeasured, stopped_says}

-- a run that is kept is the run that it was
phase_back : (p : Phase) → phase_of (phase_number p) ≡ p
unfolding phase_of phase_number
phase_back Unordered = refl
phase_back Going = refl
phase_back Stopped = refl

pub kept_back : (b : Bench) → run_of (kept_run b) ≡ b
kept_back b = rw (phase_back b.phase) refl

-- a call is a step
step_is : (r : Run) (piece : List ℕ) (n : ℕ) (r' : Run) → record { refusal = n; run = r' } ≡ step_answer r piece → run_of r' ≡ stepped (run_of r) piece
step_is r piece n r' e = ap (λ (x : Answer). run_of x.run) e ∙ kept_back (stepped (run_of r) piece)

-- in two parts
through_parts : (n : ℕ) (ps : List (List ℕ)) (b : Bench) → through (through b (take n ps)) (drop n ps) ≡ through b ps
unfolding through
through_parts zero ps b = refl
through_parts (suc n) [] b = refl
through_parts (suc n) (p ∷ ps) b = through_parts n ps (stepped b p)

-- calls of the step, one for each of the first n pieces: to step through them
module _ (ps : List (List ℕ)) (runs : ℕ → Run) (numbers : ℕ → ℕ) (opened : runs 0 ≡ kept_run begun) where
  so_far : (n : ℕ) → n ≤ length ps → ((k : ℕ) → k < n → record { refusal = numbers k; run = runs (suc k) } ≡ step_answer (runs k) (get_or ps k []))
      → run_of (runs n) ≡ through begun (take n ps)
  unfolding through
  so_far zero l step = ap run_of opened ∙ kept_back begun
  so_far (suc n) l step =
      step_is _ _ _ _ (step n (omega arith))
      ∙ ap (λ (b : Bench). stepped b (get_or ps n [])) (so_far n (omega arith) (λ k h. step k (omega arith)))
      ∙ sym (on_the_way ps begun n l)

module _ (s : List ℕ) (r : Run) (h : Hosted s r) where
  -- what is left of the pieces changes nothing
  all : (h.steps ≡ length (pieces s)) ⊎ (phase_of (h.runs h.steps).phase ≡ Stopped) → run_of (h.runs h.steps) ≡ through begun (pieces s)
  all (inl e) =
      so_far (pieces s) h.runs h.numbers h.opened h.steps h.inside h.step
      ∙ ap (through begun) (ap (λ (n : ℕ). take n (pieces s)) e ∙ take-length (pieces s))
  all (inr e) =
      sym (through_stays (run_of (h.runs h.steps)) e (drop h.steps (pieces s)))
      ∙ ap (λ (b : Bench). through b (drop h.steps (pieces s)))
      (so_far (pieces s) h.runs h.numbers h.opened h.steps h.inside h.step)
      ∙ through_parts h.steps (pieces s) begun

  comes_to : run_of r ≡ examined s
  comes_to = ap run_of h.last ∙ all h.enough ∙ pieces_alike s

pub hosted_run : HostedRun
hosted_run = comes_to

-- a verdict by its number
by_number_lem : (v w : Verdict) → verdict_number v ≡ verdict_number w → v ≡ w
unfolding verdict_number
by_number_lem NotMeasured NotMeasured e = refl
by_number_lem NotMeasured Pass e = absurd (omega arith)
by_number_lem NotMeasured Fail e = absurd (omega arith)
by_number_lem Pass NotMeasured e = absurd (omega arith)
by_number_lem Pass Pass e = refl
by_number_lem Pass Fail e = absurd (omega arith)
by_number_lem Fail NotMeasured e = absurd (omega arith)
by_number_lem Fail Pass e = absurd (omega arith)
by_number_lem Fail Fail e = refl

numbered : (b c : Bench) → b ≡ c → (v : Verdict) {X : Type 0} → (verdict_of c ≡ v) ↔ X → (verdict_number (verdict_of b) ≡ verdict_number v) ↔ X
numbered b c e v means = (
  λ n. means.0 (by_number_lem (verdict_of c) v (ap (λ (x : Bench). verdict_number (verdict_of x)) (sym e) ∙ n)),
  λ x. ap
      (λ (y : Bench). verdict_number (verdict_of y)) e ∙ ap verdict_number (means.1 x),
)

-- the verdict of the capture's run, by its number, is the one that is due
pub due : (s : List ℕ) (b : Bench) → AllBytes s → b ≡ examined s → VerdictDue s (verdict_number (verdict_of b))
unfolding verdict_number
due s b B e = (numbered b (examined s) e Pass (passes s B), numbered b (examined s) e Fail (fails s B), numbered b (examined s) e NotMeasured (unmeasured s B))

pub hosted_verdict : HostedVerdict
hosted_verdict s r B h = due s (run_of r) B (comes_to s r h)

pub examined_verdict : ExaminedVerdict
examined_verdict s B = due s (examined s) B refl

pub hosted_report : HostedReport
hosted_report s r h buffer l = examination s (run_of r) (comes_to s r h) buffer l

pub examined_report : ExaminedReport
examined_report s buffer l = examination s (examined s) refl buffer l

-- ---- any bytes given

pub nothing_dropped : NothingDropped
unfolding verdict_number
nothing_dropped given r h = go (subst (λ (b : Bench). (is_stopped b.phase ≡ true) ⊎ (b ≡ examined (joined given))) (sym is) (nothing_passed_over given))
  where
    is : run_of r ≡ through begun given
    is =
        ap run_of h.last ∙ so_far given h.runs h.numbers h.opened (length given) (omega arith) h.step
        ∙ ap (through begun) (take-length given)

    go : (is_stopped (run_of r).phase ≡ true) ⊎ (run_of r ≡ examined (joined given))
        → ((is_stopped (run_of r).phase ≡ true) × (verdict_number (verdict_of (run_of r)) ≡ 0))
        ⊎ ((run_of r ≡ examined (joined given)) × (AllBytes (joined given) → VerdictDue (joined given) (verdict_number (verdict_of (run_of r)))))
    go (inl e) = inl (e, ap verdict_number (stopped_unmeasured (run_of r) (is_stopped_lem (run_of r).phase e)))
    go (inr e) = inr (e, λ B. due (joined given) (run_of r) B e)

-- ---- they exist
pub hosted_exists : HostedExists
unfolding through
hosted_exists s =
    let at : ℕ → Bench = λ k. through begun (take k (pieces s)) in (
      kept_run (at (length (pieces s))),
      record {
        steps = length (pieces s);
        runs = λ k. kept_run (at k);
        numbers = λ k. step_refusal (run_of (kept_run (at k))) (get_or (pieces s) k []);
        opened = refl;
        step = λ k h. ap (λ (b : Bench). record { refusal = step_refusal (run_of (kept_run (at k))) (get_or (pieces s) k []); run = kept_run b })
            (on_the_way (pieces s) begun k h ∙ ap (λ (b : Bench). stepped b (get_or (pieces s) k [])) (sym (kept_back (at k))));
        inside = omega arith;
        enough = inl refl;
        last = refl;
      },
    )

pub stopped_verdict : StoppedVerdict
unfolding verdict_number
stopped_verdict r =
    let e = kept_back (stopped (run_of r)) in (
      ap (λ (b : Bench). verdict_number (verdict_of b)) e ∙ ap verdict_number (stopped_unmeasured (stopped (run_of r)) refl),
      subst (λ (b : Bench). Line "verdict NOT MEASURED" (text b)) (sym e) (stopped_says (run_of r)),
    )
