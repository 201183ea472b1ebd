-- Each public function's contract fixes its outcome: two outcomes of one call that satisfy its `ensures`, as the source states it, are equal.
-- Assumes nothing.
use mathlib.Core.Path.{◌≡◌, refl, sym, ap, ◌∙◌}
use seplogic.Ra.Ura.{Ura}
use base.Logic.{SProp}
use prog.Memory.{Memory}
use prog.Routine.{Routine}
use types.Logic.{Logic}
use contract.Monad.{Fun}
use Rattle.bits.proofs.Fixes.{Fixes, FixesSaid}
use Rattle.account.specs.definitions.Account.{opened, loss_entered}
use Rattle.account.specs.definitions.Account.{Entry}
use Rattle.bench.specs.definitions.Run.{begun, stopped}
use Rattle.adderbloom.specs.definitions.Run.{Answer}
use Rattle.adderbloom.specs.definitions.Entry.{flags_entered}
use Rattle.adderbloom.specs.definitions.Run.{run_of, kept_run, step_answer}
use Rattle.adderbloom.proofs.lr800_send.Kinds as send-kinds
use Rattle.adderbloom.proofs.lr800_send.Reads as send-reads
use Rattle.adderbloom.proofs.lr800_receive.Kinds as receive-kinds
use Rattle.adderbloom.proofs.lr800_receive.Reads as receive-reads
use Rattle.adderbloom.proofs.lr800_verdict.Kinds as verdict-kinds
use Rattle.adderbloom.proofs.lr800_verdict.Reads as verdict-reads
use Rattle.adderbloom.proofs.captures.lr800_examine.Kinds as examine-kinds
use Rattle.adderbloom.proofs.captures.lr800_examine.Reads as examine-reads
use Rattle.adderbloom.proofs.captures.lr800_examine_verdict.Kinds as examine-verdict-kinds
use Rattle.adderbloom.proofs.captures.lr800_examine_verdict.Reads as examine-verdict-reads
use Rattle.adderbloom.specs.contracts.entries.lr800_account_open as account-open
use Rattle.adderbloom.specs.contracts.entries.lr800_account_enter as account-enter
use Rattle.adderbloom.specs.contracts.entries.lr800_account_lose as account-lose
use Rattle.adderbloom.proofs.records.lr800_read.Kinds as read-kinds
use Rattle.adderbloom.proofs.records.lr800_read.Reads as read-reads
use Rattle.adderbloom.proofs.records.lr800_wanted.Kinds as wanted-kinds
use Rattle.adderbloom.proofs.records.lr800_wanted.Reads as wanted_reads
use Rattle.adderbloom.specs.contracts.runs.lr800_run_open as run-open
use Rattle.adderbloom.specs.contracts.runs.lr800_run_step as run_step
use Rattle.adderbloom.specs.contracts.runs.lr800_run_stop as run-stop
use Rattle.adderbloom.proofs.runs.lr800_run_verdict.Kinds as run-verdict-kinds
use Rattle.adderbloom.proofs.runs.lr800_run_verdict.Reads as run-verdict-reads
use Rattle.adderbloom.proofs.runs.lr800_run_report.Kinds as run-report-kinds
use Rattle.adderbloom.proofs.runs.lr800_run_report.Reads as run-report-reads
use Rattle.adderbloom.proofs.test_traffic.lr800_traffic_state.Kinds as traffic-state-kinds
use Rattle.adderbloom.proofs.test_traffic.lr800_traffic_state.Reads as traffic-state-reads
use Rattle.adderbloom.proofs.test_traffic.lr800_traffic_frame.Kinds as traffic-frame-kinds
use Rattle.adderbloom.proofs.test_traffic.lr800_traffic_frame.Reads as traffic-frame-reads
use Rattle.adderbloom.proofs.test_traffic.lr800_traffic_next.Kinds as traffic-next-kinds
use Rattle.adderbloom.proofs.test_traffic.lr800_traffic_next.Reads as traffic-next-reads
use Rattle.adderbloom.proofs.test_traffic.lr800_traffic_check.Kinds as traffic-check-kinds
use Rattle.adderbloom.proofs.test_traffic.lr800_traffic_check.Reads as traffic-check-reads
use Rattle.adderbloom.proofs.hunts.lr800_hunt.Kinds as hunt-kinds
use Rattle.adderbloom.proofs.hunts.lr800_hunt.Reads as hunt-reads
use Rattle.adderbloom.proofs.hunts.lr800_hunt_answer.Kinds as hunt-answer-kinds
use Rattle.adderbloom.proofs.hunts.lr800_hunt_answer.Reads as hunt-answer-reads
use Rattle.adderbloom.specs.contracts.hunts.lr800_hunt_open as hunt-open
use Rattle.adderbloom.specs.contracts.hunts.lr800_hunt_feed as hunt-feed
use Rattle.hunt.specs.definitions.Pieces.{opened as hunt-opened, Feeds}
use Rattle.adderbloom.proofs.hunts.FoundFromResultOptionU64Refusal.from.Kinds as found-from-kinds
use Rattle.adderbloom.proofs.hunts.FoundFromResultOptionU64Refusal.from.Reads as found-from-reads
use Rattle.adderbloom.proofs.runs.BenchRunFromRun.from.Kinds as run-of-kinds
use Rattle.adderbloom.proofs.runs.BenchRunFromRun.from.Reads as run-of-reads
use Rattle.adderbloom.proofs.runs.RunFromBenchRun.from.Kinds as kept-run-kinds
use Rattle.adderbloom.proofs.runs.RunFromBenchRun.from.Reads as kept-run-reads

-- the number, and the store and the output at exit
pub send_determined : Fixes 3 send-kinds.ps send-kinds.r send-reads.Post (λ κs s t. (s.1.0.now ≡ t.1.0.now) × (s.1.1.0.now ≡ t.1.1.0.now))
send_determined κs a x y s t p q = (p.number ∙ sym q.number, (p.store ∙ sym q.store, p.output ∙ sym q.output))

-- the number, and the store, the output and the flags at exit
pub receive_determined : Fixes 4 receive-kinds.ps receive-kinds.r receive-reads.Post (λ κs s t. (s.1.0.now ≡ t.1.0.now)
    × (s.1.1.0.now ≡ t.1.1.0.now) × (s.1.1.1.0.now ≡ t.1.1.1.0.now))
receive_determined κs a x y s t p q = (p.number ∙ sym q.number, (p.store ∙ sym q.store, p.output ∙ sym q.output, p.flags ∙ sym q.flags))

pub verdict_determined : Fixes 0 verdict-kinds.ps verdict-kinds.r verdict-reads.Post (λ κs s t. Unit)
verdict_determined κs a x y s t p q = (p ∙ sym q, tt)

pub read_determined : Fixes 1 read-kinds.ps read-kinds.r read-reads.Post (λ κs s t. Unit)
read_determined κs a x y s t p q = (p ∙ sym q, tt)

pub wanted_determined : Fixes 1 wanted-kinds.ps wanted-kinds.r wanted_reads.Post (λ κs s t. Unit)
wanted_determined κs a x y s t p q = (p ∙ sym q, tt)

pub run_verdict_determined : Fixes 0 run-verdict-kinds.ps run-verdict-kinds.r run-verdict-reads.Post (λ κs s t. Unit)
run_verdict_determined κs a x y s t p q = (p ∙ sym q, tt)

pub examine_verdict_determined : Fixes 1 examine-verdict-kinds.ps examine-verdict-kinds.r examine-verdict-reads.Post (λ κs s t. Unit)
examine_verdict_determined κs a x y s t p q = (p ∙ sym q, tt)

-- how many bytes, and the text at exit
pub examine_determined : Fixes 2 examine-kinds.ps examine-kinds.r examine-reads.Post (λ κs s t. s.1.0.now ≡ t.1.0.now)
examine_determined κs a x y s t p q = (p.0 ∙ sym q.0, p.1 ∙ sym q.1)

pub run_report_determined : Fixes 1 run-report-kinds.ps run-report-kinds.r run-report-reads.Post (λ κs s t. s.1.0.now ≡ t.1.0.now)
run_report_determined κs a x y s t p q = (p.0 ∙ sym q.0, p.1 ∙ sym q.1)

pub traffic_state_determined : Fixes 0 traffic-state-kinds.ps traffic-state-kinds.r traffic-state-reads.Post (λ κs s t. Unit)
traffic_state_determined κs a x y s t p q = (p ∙ sym q, tt)

-- the number, and the output at exit
pub traffic_frame_determined : Fixes 1 traffic-frame-kinds.ps traffic-frame-kinds.r traffic-frame-reads.Post (λ κs s t. s.1.0.now ≡ t.1.0.now)
traffic_frame_determined κs a x y s t p q = (p.number ∙ sym q.number, p.output ∙ sym q.output)

-- the number, and the state and the output at exit
pub traffic_next_determined : Fixes 2 traffic-next-kinds.ps traffic-next-kinds.r traffic-next-reads.Post
    (λ κs s t. (s.0.now ≡ t.0.now) × (s.1.0.now ≡ t.1.0.now))
traffic_next_determined κs a x y s t p q = (p.number ∙ sym q.number, (p.state ∙ sym q.state, p.output ∙ sym q.output))

-- the number, and the counts at exit
pub traffic_check_determined : Fixes 2 traffic-check-kinds.ps traffic-check-kinds.r traffic-check-reads.Post (λ κs s t. s.1.1.0.now ≡ t.1.1.0.now)
traffic_check_determined κs a x y s t p q = (p.number ∙ sym q.number, p.counts ∙ sym q.counts)

pub hunt_determined : Fixes 1 hunt-kinds.ps hunt-kinds.r hunt-reads.Post (λ κs s t. Unit)
hunt_determined κs a x y s t p q = (p ∙ sym q, tt)

pub hunt_answer_determined : Fixes 0 hunt-answer-kinds.ps hunt-answer-kinds.r hunt-answer-reads.Post (λ κs s t. Unit)
hunt_answer_determined κs a x y s t p q = (p ∙ sym q, tt)

-- conversions: of what a search says, of a kept run, of a run
pub found_from_determined : Fixes 0 found-from-kinds.ps found-from-kinds.r found-from-reads.Post (λ κs s t. Unit)
found_from_determined κs a x y s t p q = (p ∙ sym q, tt)

pub run_of_determined : Fixes 0 run-of-kinds.ps run-of-kinds.r run-of-reads.Post (λ κs s t. Unit)
run_of_determined κs a x y s t p q = (p ∙ sym q, tt)

pub kept_run_determined : Fixes 0 kept-run-kinds.ps kept-run-kinds.r kept-run-reads.Post (λ κs s t. Unit)
kept_run_determined κs a x y s t p q = (p ∙ sym q, tt)

-- The functions that are lent an account, a run or a search's numbers, over what their clauses say.

-- two entries that are equal, part by part
parts : (x y : Entry) → x ≡ y → (x.refusal ≡ y.refusal) × (x.account ≡ y.account)
parts x y e = (ap (λ (r : Entry). r.refusal) e, ap (λ (r : Entry). r.account) e)

module _ {M : Type 1} {𝓤 : Ura M} (𝓛 : Logic 𝓤) (mem : Memory → SProp 𝓤) (run : Routine → Fun 𝓤) where
  -- the account at exit
  pub account_open_determined : FixesSaid 𝓤 account-open.ended (account-open.clauses 𝓛 mem run) (λ κs x y s t. (x ≡ y) × (s.0.now ≡ t.0.now))
  account_open_determined κs a g = ((λ r s. s.0.now ≡ opened a.1.0), (λ x s. refl), (λ x y s t p q. (refl, p ∙ sym q)))

  -- the number, and the account at exit
  pub account_enter_determined : FixesSaid 𝓤 account-enter.ended (account-enter.clauses 𝓛 mem run) (λ κs x y s t. (x ≡ y) × (s.0.now ≡ t.0.now))
  account_enter_determined κs a g = (
    (λ r s. record { refusal = r; account = s.0.now } ≡ flags_entered a.0.now a.1.0 a.1.1.0.now),
    (λ x s. refl),
    (λ x y s t p q. parts _ _ (p ∙ sym q)),
  )

  pub account_lose_determined : FixesSaid 𝓤 account-lose.ended (account-lose.clauses 𝓛 mem run) (λ κs x y s t. (x ≡ y) × (s.0.now ≡ t.0.now))
  account_lose_determined κs a g =
      ((λ r s. record { refusal = r; account = s.0.now } ≡ loss_entered a.0.now a.1.0), (λ x s. refl), (λ x y s t p q. parts _ _ (p ∙ sym q)))

  -- the run at exit
  pub run_open_determined : FixesSaid 𝓤 run-open.ended (run-open.clauses 𝓛 mem run) (λ κs x y s t. (x ≡ y) × (s.0.now ≡ t.0.now))
  run_open_determined κs a g = ((λ r s. s.0.now ≡ kept_run begun), (λ x s. refl), (λ x y s t p q. (refl, p ∙ sym q)))

  pub run_stop_determined : FixesSaid 𝓤 run-stop.ended (run-stop.clauses 𝓛 mem run) (λ κs x y s t. (x ≡ y) × (s.0.now ≡ t.0.now))
  run_stop_determined κs a g = ((λ r s. s.0.now ≡ kept_run (stopped (run_of a.0.now))), (λ x s. refl), (λ x y s t p q. (refl, p ∙ sym q)))

  -- the number, and the run at exit
  pub run_step_determined : FixesSaid 𝓤 run_step.ended (run_step.clauses 𝓛 mem run) (λ κs x y s t. (x ≡ y) × (s.0.now ≡ t.0.now))
  run_step_determined κs a g = (
    (λ r s. record { refusal = r; run = s.0.now } ≡ step_answer a.0.now a.1.0.now),
    (λ x s. refl),
    (λ x y s t p q. let e = p ∙ sym q in (ap (λ (z : Answer). z.refusal) e, ap (λ (z : Answer). z.run) e)),
  )

  -- the search's numbers at exit
  pub hunt_open_determined : FixesSaid 𝓤 hunt-open.ended (hunt-open.clauses 𝓛 mem run) (λ κs x y s t. (x ≡ y) × (s.0.now ≡ t.0.now))
  hunt_open_determined κs a g = ((λ r s. s.0.now ≡ hunt-opened), (λ x s. refl), (λ x y s t p q. (refl, p ∙ sym q)))

  -- the number, and the search's numbers and the symbols kept at exit
  pub hunt_feed_determined : FixesSaid 𝓤 hunt-feed.ended (hunt-feed.clauses 𝓛 mem run)
      (λ κs x y s t. (x ≡ y) × (s.0.now ≡ t.0.now) × (s.1.0.now ≡ t.1.0.now))
  hunt_feed_determined κs a g = (
    (λ r s. Feeds a.0.now a.1.0.now a.1.1.0.now r s.0.now s.1.0.now),
    (λ x s. refl),
    (λ x y s t p q. (p.number ∙ sym q.number, p.hunt ∙ sym q.hunt, p.symbols ∙ sym q.symbols)),
  )
