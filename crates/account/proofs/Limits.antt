-- What it means that no field of an account stands above its limit.
-- Assumes nothing.
use Rattle.std.proofs.Common.{◌≡◌, ◌≤◌, false, arith}
use Rattle.std.proofs.lemmas.Bool.Decides.{nat_tests}
use Rattle.account.specs.definitions.Account.{frame_limit, tally_limit, over}
use Rattle.account.specs.declared.Account.{Account}

-- every field of an account that is not over is within its limit
pub under : (a : Account) → over a ≡ false
    → (a.accepted ≤ frame_limit) × (a.missing ≤ frame_limit)
    × (a.words.clean ≤ tally_limit) × (a.words.one ≤ tally_limit) × (a.words.two ≤ tally_limit) × (a.words.flagged ≤ tally_limit)
unfolding over
under a e = grind (arith, nat_tests)

-- and the other way round
pub within : (a : Account) → a.accepted ≤ frame_limit → a.missing ≤ frame_limit
    → a.words.clean ≤ tally_limit → a.words.one ≤ tally_limit → a.words.two ≤ tally_limit → a.words.flagged ≤ tally_limit → over a ≡ false
unfolding over
within a m n c o t f = grind (arith, nat_tests)
