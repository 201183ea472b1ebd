-- The loop of `account::count_flags`: n counts the bytes so far that are v. Assumes nothing.
use Rattle.std.proofs.Common.{◌≡◌, eqb, take, count_by}
use Rattle.account.proofs.count_flags.Given as goal

abbrev pub invariant-loop-flag : goal.invariant-loop-flag
invariant-loop-flag l = l.n ≡ count_by (λ flag. eqb flag l.v) (take l.flag-index l.flags)
