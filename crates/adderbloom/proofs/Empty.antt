-- What the contracts of `lr800_run_verdict` and `lr800_run_step` forbid, at a named input: that a run stored with the phase 3, which no phase has, goes on.
-- Assumes nothing.
use mathlib.Core.Path.{◌≡◌, refl, ap, ◌∙◌}
use mathlib.Core.Bool.{true}
use mathlib.Core.List.{List}
use Prim.Native.Nat.{ℕ}
use Rattle.account.specs.declared.Account.{Account}
use Rattle.account.specs.definitions.Account.{verdict, verdict_number}
use Rattle.bench.specs.declared.Run.{Run as Bench}
use Rattle.bench.specs.definitions.Run.{is_stopped, goes_on, verdict_of}
use Rattle.bench.proofs.Stops.{stopped_stays}
use Rattle.adderbloom.specs.definitions.Run.{phase_number, phase_of, run_of, kept_run, step_answer}
use Rattle.adderbloom.specs.declared.runs.Run.{Run}
use Rattle.adderbloom.specs.definitions.Run.{Answer}

module _ (asked allowed : ℕ) (a : Account) where
  -- the phase 3
  abbrev odd : Run
  odd = record { phase = 3; asked = asked; allowed = allowed; account = a }

  -- it is stopped
  pub odd_stopped : is_stopped (run_of odd).phase ≡ true
  unfolding is_stopped phase_of
  odd_stopped = refl

  -- its verdict is not measured
  pub odd_verdict : (n : ℕ) → n ≡ verdict_number (verdict_of (run_of odd)) → n ≡ 0
  unfolding verdict_number verdict_of verdict goes_on phase_of
  odd_verdict n e = e

  -- a step does not change the run
  pub odd_step : (piece : List ℕ) (n : ℕ) (r' : Run) → record { refusal = n; run = r' } ≡ step_answer odd piece → run_of r' ≡ run_of odd
  unfolding phase_of phase_number
  odd_step piece n r' e = ap (λ (x : Answer). run_of x.run) e ∙ ap (λ (b : Bench). run_of (kept_run b)) (stopped_stays (run_of odd) piece odd_stopped)
