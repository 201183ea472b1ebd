-- A run as a host in C keeps it, the phase by its number, and its step.
-- Assumes nothing.
use Rattle.std.specs.Prelude.{cond, List, ℕ, eqb}
use Rattle.bench.specs.declared.Run.{Run as Bench}
use Rattle.bench.specs.declared.Phase.{Phase}
use Rattle.bench.specs.declared.Phase.TheVariants.{Unordered, Going, Stopped}
use Rattle.bench.specs.definitions.Run.{stepped, step_refusal}
use Rattle.adderbloom.specs.declared.runs.Run.{Run}

-- a step's answer: its number, and the run
pub record Answer : Type 0 where
  pub refusal : ℕ
  pub run : Run

-- the phase's number (house: what is all zero has no order)
unfoldable pub phase_number : Phase → ℕ
phase_number Unordered = 0
phase_number Going = 1
phase_number Stopped = 2

-- the phase by its number; any number above 1 says stopped
unfoldable pub phase_of : ℕ → Phase
phase_of n = cond (eqb n 0) Unordered (cond (eqb n 1) Going Stopped)

-- the run that a host keeps
abbrev pub run_of : Run → Bench
run_of r = record { phase = phase_of r.phase; asked = r.asked; allowed = r.allowed; account = r.account }

-- a run as a host keeps it
abbrev pub kept_run : Bench → Run
kept_run r = record { phase = phase_number r.phase; asked = r.asked; allowed = r.allowed; account = r.account }

-- a step with one record's bytes: the number answered and the run at exit
abbrev pub step_answer : Run → List ℕ → Answer
step_answer r piece = record { refusal = step_refusal (run_of r) piece; run = kept_run (stepped (run_of r) piece) }
