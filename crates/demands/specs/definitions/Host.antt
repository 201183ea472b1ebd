-- The calls of a host in C: a capture stepped through record by record, any bytes stepped through, and an account that the host keeps itself.
-- Assumes nothing.
use Rattle.std.specs.Prelude.{◌≡◌, not, ◌≢◌, ◌⊎◌, ◌↔◌, List, [], ℕ, suc, ◌<◌, ◌≤◌, eqb, length, get_or}
use Rattle.framing.specs.definitions.Places.{base}
use Rattle.framing.specs.definitions.Receive.{Receives}
use Rattle.account.specs.declared.Account.{Account}
use Rattle.account.specs.definitions.Account.{opened, loss_entered, verdict, verdict_number}
use Rattle.bench.specs.declared.Phase.TheVariants.{Stopped}
use Rattle.bench.specs.definitions.Run.{begun}
use Rattle.bench.specs.definitions.Walk.{pieces}
use Rattle.adderbloom.specs.definitions.Entry.{flags_entered}
use Rattle.adderbloom.specs.definitions.Run.{phase_of, kept_run, step_answer}
use Rattle.adderbloom.specs.declared.runs.Run.{Run}
use Rattle.demands.specs.definitions.Verdict.{Measured, flagged_words, Arrived}

-- a number says the verdict that is due to the capture s: 1 for PASS, 2 for FAIL, 0 for NOT MEASURED
abbrev pub VerdictDue : List ℕ → ℕ → Type 0
VerdictDue s n =
    ((n ≡ 1) ↔ ((m : Measured s) × (flagged_words m ≤ m.allowed)))
    × ((n ≡ 2) ↔ ((m : Measured s) × (m.allowed < flagged_words m)))
    × ((n ≡ 0) ↔ (Measured s → ⊥))

-- The calls of a host over the capture s, as the contracts allow: `lr800_run_open`, then a `lr800_run_step` for each piece in its turn, to the last or to what
-- stops the run
pub record Hosted (s : List ℕ) (r : Run) : Type 0 where
  pub steps : ℕ
  pub runs : ℕ → Run
  pub numbers : ℕ → ℕ
  pub opened : runs 0 ≡ kept_run begun
  pub step : (k : ℕ) → k < steps → record { refusal = numbers k; run = runs (suc k) } ≡ step_answer (runs k) (get_or (pieces s) k [])
  pub inside : steps ≤ length (pieces s)
  pub enough : (steps ≡ length (pieces s)) ⊎ (phase_of (runs steps).phase ≡ Stopped)
  pub last : r ≡ runs steps

-- Any calls whatever: `lr800_run_open`, then a `lr800_run_step` with each of these bytes
pub record Stepped (given : List (List ℕ)) (r : Run) : Type 0 where
  pub runs : ℕ → Run
  pub numbers : ℕ → ℕ
  pub opened : runs 0 ≡ kept_run begun
  pub step : (k : ℕ) → k < length given → record { refusal = numbers k; run = runs (suc k) } ≡ step_answer (runs k) (get_or given k [])
  pub last : r ≡ runs (length given)

-- The calls of a host that keeps the account itself, over a capture that came so: `lr800_account_open`; for each frame `lr800_receive`, with a store, an output
-- and flags of the right lengths, and where it answers 0 `lr800_account_enter`, where it answers 5 `lr800_account_lose`; and `lr800_verdict`. It goes on to the
-- last frame, or leaves off once an entry was refused
pub record OwnAccount {s : List ℕ} (a : Arrived s) (answer : ℕ) : Type 0 where
  pub calls : ℕ
  pub inside : calls ≤ a.n
  -- receiving: what is lent to each call, the number answered, and what the call leaves
  pub stores : ℕ → List ℕ
  pub outs : ℕ → List ℕ
  pub flag_buffers : ℕ → List ℕ
  pub lent : (k : ℕ) → k < calls → (length (stores k) ≡ 2880) × (length (outs k) ≡ 5280) × (length (flag_buffers k) ≡ 384)
  pub answers : ℕ → ℕ
  pub kept : ℕ → List ℕ
  pub lanes : ℕ → List ℕ
  pub flags : ℕ → List ℕ
  pub received : (k : ℕ) → k < calls → Receives base (a.frames k) (stores k) (outs k) (flag_buffers k) (answers k) (kept k) (lanes k) (flags k)
  -- the account before each frame, and what each entry answers
  pub accounts : ℕ → Account
  pub refusals : ℕ → ℕ
  pub opens : accounts 0 ≡ opened a.start
  pub enters : (k : ℕ) → k < calls → answers k ≡ 0
      → record { refusal = refusals k; account = accounts (suc k) } ≡ flags_entered (accounts k) (a.numbers k) (flags k)
  -- without lock
  pub loses : (k : ℕ) → k < calls → answers k ≡ 5 → record { refusal = refusals k; account = accounts (suc k) } ≡ loss_entered (accounts k) (a.numbers k)
  pub enough : (calls ≡ a.n) ⊎ ((k : ℕ) × (k < calls) × (refusals k ≢ 0))
  -- `stopped` is 0 exactly if no entry was refused and nothing stands behind the frames
  pub stopped : ℕ
  pub stops : (stopped ≡ 0) ↔ (((k : ℕ) → k < calls → refusals k ≡ 0) × (a.rest ≡ []))
  pub asks :
      answer
      ≡ verdict_number (verdict a.asked a.allowed (record {
        expected = 0;
        start = 0;
        accepted = (accounts calls).accepted;
        missing = (accounts calls).missing;
        words = (accounts calls).words;
      }) (not (eqb stopped 0)))
