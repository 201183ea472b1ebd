-- `ReportsAlike`: what a run enters for a hit frame hangs on the flips alone.
-- Assumes nothing.
use mathlib.Core.Path.{◌≡◌, refl, sym, ap, ap₂, ◌∙◌}
use mathlib.Core.Bool.{Bool, cond}
use mathlib.Core.List.{List, append_assoc}
use Prim.Native.Nat.{ℕ, zero, suc, ◌^◌, ◌<◌, ◌≤◌}
use native.Mathlib.Omega.{arith}
use lib.Dec.{ltb}
use Rattle.bits.proofs.Tabulate.{length_tabulate}
use Rattle.lanes.specs.definitions.Permutation.{Places}
use Rattle.pilots.specs.definitions.Pilots.{lock_limit}
use Rattle.framing.specs.definitions.Receive.{received_flags}
use Rattle.account.specs.declared.Account.{Account}
use Rattle.account.specs.definitions.Account.{tallies_of, frame_entered, loss_entered}
use Rattle.capture.specs.definitions.Capture.{order_record, frame_records}
use Rattle.bench.specs.declared.Run.{Run}
use Rattle.bench.specs.declared.Phase.{Phase}
use Rattle.bench.specs.declared.Phase.TheVariants.{Unordered, Going, Stopped}
use Rattle.bench.specs.definitions.Run.{after_entry, entry_of, frame_came}
use Rattle.bench.specs.definitions.Walk.{pieces, through, examined}
use Rattle.report.specs.definitions.Report.{text}
use Rattle.demands.specs.definitions.Trial.{hit, hit_pilots, Trial}
use Rattle.demands.specs.definitions.Tallies.{captured}
use Rattle.demands.specs.statements.Tallies.{ReportsAlike}
use Rattle.demands.proofs.Hit.{hit_locks, flags_hit}
use Rattle.demands.proofs.Trial.{code_words, frame_pilots}
use Rattle.demands.proofs.Arriving.{run_after, onward_frames}

-- the entry of a hit frame hangs on the flips alone
entry_of_flips : {ex : Places} {n : ℕ} {flips lanes room outs flag_buffers : ℕ → List ℕ} (t : Trial ex n flips lanes room outs flag_buffers)
    → (f : ℕ) → f < n → (a : Account) (got : ℕ)
    → entry_of a got (hit (t.frames f) (flips f))
    ≡ cond (ltb (hit_pilots (flips f)) lock_limit) (frame_entered a got (tallies_of a got (received_flags (flips f)))) (loss_entered a got)
unfolding entry_of
entry_of_flips {flips = flips} t f h a got =
    ap₂ (λ (b : Bool) (g : List ℕ). cond b (frame_entered a got (tallies_of a got g)) (loss_entered a got))
    (hit_locks (t.frames f) (flips f) (λ k l. frame_pilots t f k h l)) (flags_hit (t.frames f) (flips f) (code_words t f h))

-- a frame in a run, by its entry
by_entry : (p : Phase) (r : Run) (got : ℕ) (f g : List ℕ) → entry_of r.account got f ≡ entry_of r.account got g → frame_came p r got f ≡ frame_came p r got g
unfolding frame_came
by_entry Unordered r got f g e = refl
by_entry Going r got f g e = ap (after_entry r) e
by_entry Stopped r got f g e = refl

module _ (ex : Places) (n : ℕ) (flips lanes room outs flag_buffers : ℕ → List ℕ) (a : Trial ex n flips lanes room outs flag_buffers)
    (lanes' room' outs' flag_buffers' : ℕ → List ℕ) (b : Trial ex n flips lanes' room' outs' flag_buffers') (start asked allowed : ℕ) (got : ℕ → ℕ) where
  abbrev run_of_lem : (ℕ → List ℕ) → ℕ → Run
  run_of_lem frames k = run_after start asked allowed got (λ f. hit (frames f) (flips f)) k

  runs_alike : (k : ℕ) → k ≤ n → run_of_lem a.frames k ≡ run_of_lem b.frames k
  unfolding run_after
  runs_alike zero h = refl
  runs_alike (suc k) h =
      ap (λ (r : Run). frame_came r.phase r (got k) (hit (a.frames k) (flips k))) (runs_alike k (omega arith))
      ∙ (let r = run_of_lem b.frames k in
      by_entry r.phase r (got k) _ _ (entry_of_flips a k (omega arith) r.account (got k) ∙ sym (entry_of_flips b k (omega arith) r.account (got k))))

-- the run of a trial's capture
captured_run : {ex : Places} {n : ℕ} {flips lanes room outs flag_buffers : ℕ → List ℕ} (t : Trial ex n flips lanes room outs flag_buffers)
    → (start asked allowed : ℕ) (got : ℕ → ℕ) (rest : List ℕ) → (start < 2 ^ 32) × (asked < 2 ^ 32) × (allowed < 2 ^ 32) → ((f : ℕ) → f < n → got f < 2 ^ 32)
    → examined (captured start asked allowed got t rest) ≡ through (run_after start asked allowed got (λ f. hit (t.frames f) (flips f)) n) (pieces rest)
unfolding hit
captured_run {n = n} {flips = flips} t start asked allowed got rest small numbers =
    let frames : ℕ → List ℕ = λ f. hit (t.frames f) (flips f) in
    ap examined (sym (append_assoc (order_record start asked allowed) (frame_records got frames n) rest))
    ∙ sym (onward_frames start asked allowed got frames small n (λ k h. (numbers k h, length_tabulate 6144 _)) rest)

pub reports_alike : ReportsAlike
reports_alike ex n flips lanes room outs flag_buffers a lanes' room' outs' flag_buffers' b start asked allowed got rest small numbers =
    let e =
    captured_run a start asked allowed got rest small numbers
    ∙ ap (λ (r : Run). through r (pieces rest))
    (runs_alike ex n flips lanes room outs flag_buffers a lanes' room' outs' flag_buffers' b start asked allowed got n (omega arith))
    ∙ sym (captured_run b start asked allowed got rest small numbers) in
    (e, ap text e)
