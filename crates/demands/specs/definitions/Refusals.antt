-- What refusal 11 speaks of (01, refusal list).
-- Assumes nothing.
use Rattle.std.specs.Prelude.{◌⊎◌, ◌<◌}
use Rattle.account.specs.declared.Account.{Account}

-- accepted or missing stands above 1,000,000, or any one tally above 384,000,000
abbrev pub Above : Account → Type 0
Above a =
    ((1000000 < a.accepted) ⊎ (1000000 < a.missing))
    ⊎ (384000000 < a.words.clean) ⊎ (384000000 < a.words.one) ⊎ (384000000 < a.words.two) ⊎ (384000000 < a.words.flagged)
