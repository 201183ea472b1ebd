-- What each verdict means.
-- Assumes nothing.
use Rattle.std.proofs.Common.{◌≡◌, ℕ, ◌+◌, ◌*◌, ◌<◌, ◌≤◌, Bool, true, false, cond}
use Rattle.std.proofs.Common.{leb, ◌≢◌, arith}
use Rattle.std.proofs.lemmas.Bool.Decides.{nat_tests}
use Rattle.account.specs.definitions.Account.{total, measured, verdict, verdict_number}
use Rattle.account.specs.declared.Account.{Account}
use Rattle.account.specs.declared.Verdict.{Verdict}
use Rattle.account.specs.declared.Verdict.TheVariants.{Pass, Fail}

-- what was asked, all of it and nothing else
pub record MeasuredNumbers (asked : ℕ) (a : Account) : Type 0 where
  pub at_least_two : 2 ≤ asked
  pub all : a.accepted ≡ asked
  pub none_missing : a.missing ≡ 0
  pub right : total a.words + 448 ≡ 384 * a.accepted

pub measured_means : (asked : ℕ) (a : Account) → measured asked a ≡ true → MeasuredNumbers asked a
unfolding measured
measured_means asked a e = grind (arith, nat_tests)

pub measured_by : (asked : ℕ) (a : Account) → MeasuredNumbers asked a → true ≡ measured asked a
unfolding measured
measured_by asked a M = grind (arith, nat_tests)

-- PASS and FAIL say that the run went on and was measured, and the allowance tells one from the other
pub judged : (asked allowed : ℕ) (a : Account) (stopped : Bool) (v : Verdict) → verdict asked allowed a stopped ≡ v → verdict_number v ≢ 0
    → (stopped ≡ false) × (measured asked a ≡ true) × (cond (leb a.words.flagged allowed) Pass Fail ≡ v)
unfolding verdict verdict_number
judged asked allowed a stopped v e n = grind (arith, nat_tests)

pub passed : (n m : ℕ) → cond (leb n m) Pass Fail ≡ Pass → n ≤ m
passed n m e = grind (arith, nat_tests)

pub failed : (n m : ℕ) → cond (leb n m) Pass Fail ≡ Fail → m < n
failed n m e = grind (arith, nat_tests)
