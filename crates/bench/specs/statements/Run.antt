-- What stops a run, and what a stop does; `proofs/Stops` proves each.
-- Assumes nothing.
use Rattle.std.specs.Prelude.{◌≡◌, true, false, ◌≢◌, ◌⊎◌, ◌↔◌, List, ℕ}
use Rattle.capture.specs.definitions.Capture.{read_one}
use Rattle.bench.specs.declared.Run.{Run}
use Rattle.bench.specs.definitions.Run.{stopped, stepped, is_stopped, step_refusal, unnumbered}

-- a record stops a run exactly by a refusal, or as a second order or a frame before any
abbrev pub StopsExactly : Type 0
StopsExactly =
    (r : Run) (s : List ℕ) → is_stopped r.phase ≡ false
    → (is_stopped (stepped r s).phase ≡ true) ↔ ((step_refusal r s ≢ 0) ⊎ (unnumbered r.phase (read_one s) ≡ true))

-- and what stops it does nothing else: its figures and its account stay
abbrev pub OnlyStops : Type 0
OnlyStops = (r : Run) (s : List ℕ) → is_stopped r.phase ≡ false → is_stopped (stepped r s).phase ≡ true → stepped r s ≡ stopped r

-- a stopped run changes no more
abbrev pub StoppedStays : Type 0
StoppedStays = (r : Run) (s : List ℕ) → is_stopped r.phase ≡ true → stepped r s ≡ r
