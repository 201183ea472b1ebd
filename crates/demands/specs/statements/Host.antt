-- Calls from C: whatever a host's calls come to, the theorem of the verdict speaks of it; `proofs/Host` and `proofs/OwnAccount` prove each.
-- Assumes nothing.
use Rattle.std.specs.Prelude.{◌≡◌, true, not, ◌≢◌, ◌⊎◌, List, ℕ, ◌≤◌, eqb, length, take}
use Rattle.bits.specs.definitions.Bits.{AllBytes}
use Rattle.account.specs.declared.Account.{Account}
use Rattle.account.specs.definitions.Account.{verdict, verdict_number}
use Rattle.bench.specs.definitions.Run.{is_stopped, stopped, verdict_of}
use Rattle.bench.specs.definitions.Walk.{joined, examined}
use Rattle.report.specs.definitions.Report.{text, written_bytes, written}
use Rattle.adderbloom.specs.definitions.Run.{run_of, kept_run}
use Rattle.adderbloom.specs.declared.runs.Run.{Run}
use Rattle.demands.specs.definitions.Verdict.{Examination, Line, Arrived}
use Rattle.demands.specs.definitions.Host.{VerdictDue, Hosted, Stepped, OwnAccount}

-- the run is the capture's
abbrev pub HostedRun : Type 0
HostedRun = (s : List ℕ) (r : Run) → Hosted s r → run_of r ≡ examined s

-- what `lr800_run_verdict` answers of it: 1, 2 and 0 exactly where PASS, FAIL and NOT MEASURED are due
abbrev pub HostedVerdict : Type 0
HostedVerdict = (s : List ℕ) (r : Run) → AllBytes s → Hosted s r → VerdictDue s (verdict_number (verdict_of (run_of r)))

-- what `lr800_run_report` leaves in a buffer that holds it is the report of an examination
abbrev pub HostedReport : Type 0
HostedReport =
    (s : List ℕ) (r : Run) → Hosted s r → (buffer : List ℕ) → length (text (run_of r)) ≤ length buffer
    → Examination s (take (written_bytes (run_of r) buffer) (written (run_of r) buffer))

-- and every capture has such calls
abbrev pub HostedExists : Type 0
HostedExists = (s : List ℕ) → (r : Run) × Hosted s r

-- whatever bytes a host gives to each step, none of them is passed over: the run is stopped, and not measured; or it is that of all the bytes given, joined,
-- and the verdict is the one that is due to them
abbrev pub NothingDropped : Type 0
NothingDropped =
    (given : List (List ℕ)) (r : Run) → Stepped given r
    → ((is_stopped (run_of r).phase ≡ true) × (verdict_number (verdict_of (run_of r)) ≡ 0))
    ⊎ ((run_of r ≡ examined (joined given)) × (AllBytes (joined given) → VerdictDue (joined given) (verdict_number (verdict_of (run_of r)))))

-- where a read failed, and `lr800_run_stop` was called, the verdict is 0 and the report says so, whatever the run
abbrev pub StoppedVerdict : Type 0
StoppedVerdict =
    (r : Run)
    → (verdict_number (verdict_of (run_of (kept_run (stopped (run_of r))))) ≡ 0)
    × Line "verdict NOT MEASURED" (text (run_of (kept_run (stopped (run_of r)))))

-- what `lr800_examine_verdict` answers of a capture in memory
abbrev pub ExaminedVerdict : Type 0
ExaminedVerdict = (s : List ℕ) → AllBytes s → VerdictDue s (verdict_number (verdict_of (examined s)))

-- what `lr800_examine` leaves in a buffer that holds it is the report of an examination
abbrev pub ExaminedReport : Type 0
ExaminedReport =
    (s buffer : List ℕ) → length (text (examined s)) ≤ length buffer → Examination s (take (written_bytes (examined s) buffer) (written (examined s) buffer))

-- what `lr800_verdict` answers a host that calls receiving and the account itself is the verdict of the capture's run, and so the one that is due; and there
-- are
-- such calls
abbrev pub OwnVerdict : Type 0
OwnVerdict =
    ((s : List ℕ) (a : Arrived s) (answer : ℕ) → OwnAccount a answer
    → (answer ≡ verdict_number (verdict_of (examined s))) × (AllBytes s → VerdictDue s answer))
    × ((s : List ℕ) (a : Arrived s) → (answer : ℕ) × OwnAccount a answer)

-- and a host that says that it was stopped, by a read that failed, a capture with no order first, a call that was refused, is answered 0, whatever its numbers
abbrev pub ToldStopped : Type 0
ToldStopped = (asked allowed stopped : ℕ) (a : Account) → stopped ≢ 0 → verdict_number (verdict asked allowed a (not (eqb stopped 0))) ≡ 0
