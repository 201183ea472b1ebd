-- Demand 3 through the account: equal accounts and equal frame numbers give equal entries, call by call; and through the program: equal captures but for what
-- was sent give equal reports. `proofs/Tallies`, `proofs/Entered` and
-- `proofs/Reports` prove them.
-- Assumes nothing.
use Rattle.std.specs.Prelude.{◌≡◌, List, ℕ, ◌^◌, ◌<◌, length}
use Rattle.lanes.specs.definitions.Permutation.{Places}
use Rattle.framing.specs.definitions.Places.{base}
use Rattle.framing.specs.definitions.Receive.{Receives}
use Rattle.account.specs.declared.Account.{Account}
use Rattle.bench.specs.definitions.Run.{entry_of}
use Rattle.bench.specs.definitions.Walk.{examined}
use Rattle.report.specs.definitions.Report.{text}
use Rattle.demands.specs.definitions.Trial.{Trial}
use Rattle.demands.specs.definitions.Tallies.{reported, account_at, captured}

-- the same tallies: every entry is the same in both runs, its refusal, 10 to 12 and losses included, and the whole account
abbrev pub TalliesAlike : Type 0
TalliesAlike =
    (ex : Places) (n : ℕ) (flips : ℕ → List ℕ)
    → (lanes room outs flag_buffers : ℕ → List ℕ) (a : Trial ex n flips lanes room outs flag_buffers)
    → (lanes' room' outs' flag_buffers' : ℕ → List ℕ) (b : Trial ex n flips lanes' room' outs' flag_buffers')
    → ((f : ℕ) → f < n → (length (outs f) ≡ length (outs' f)) × (length (flag_buffers f) ≡ length (flag_buffers' f)))
    → (start : Account) (got : ℕ → ℕ) (f : ℕ) → f < n
    → reported (account_at start got a.numbers a.flag_bytes f) (got f) (a.numbers f) (a.flag_bytes f)
    ≡ reported (account_at start got b.numbers b.flag_bytes f) (got f) (b.numbers f) (b.flag_bytes f)

-- and what becomes of a frame, call by call, is what a run enters for it: after a call of receiving with the right lengths, whatever it answered
abbrev pub ReportedIsEntered : Type 0
ReportedIsEntered =
    (f s o g : List ℕ) (number : ℕ) (s' o' g' : List ℕ) → Receives base f s o g number s' o' g'
    → length f ≡ 6144 → (length s ≡ 2880) × (length o ≡ 5280) × (length g ≡ 384)
    → (a : Account) (got : ℕ) → reported a got number g' ≡ entry_of a got f

-- the same report: two patterns hit by the same flips, each captured behind the same order with the same frame numbers and the same bytes behind them, come to
-- the same run, every entry and loss included, and so the program prints the same text, whole
abbrev pub ReportsAlike : Type 0
ReportsAlike =
    (ex : Places) (n : ℕ) (flips : ℕ → List ℕ)
    → (lanes room outs flag_buffers : ℕ → List ℕ) (a : Trial ex n flips lanes room outs flag_buffers)
    → (lanes' room' outs' flag_buffers' : ℕ → List ℕ) (b : Trial ex n flips lanes' room' outs' flag_buffers')
    → (start asked allowed : ℕ) (got : ℕ → ℕ) (rest : List ℕ)
    → (start < 2 ^ 32) × (asked < 2 ^ 32) × (allowed < 2 ^ 32) → ((f : ℕ) → f < n → got f < 2 ^ 32)
    → (examined (captured start asked allowed got a rest) ≡ examined (captured start asked allowed got b rest))
    × (text (examined (captured start asked allowed got a rest)) ≡ text (examined (captured start asked allowed got b rest)))
