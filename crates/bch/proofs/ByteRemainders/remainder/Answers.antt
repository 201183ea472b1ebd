-- `bch::ByteRemainders::remainder` meets its contract: four bytes go, and 16 bits are their own remainder. Assumes nothing.
use mathlib.Core.Path.{sym, ◌∙◌}
use Rattle.bch.proofs.Remainder.{remainder_low}
use Rattle.bch.proofs.ByteRemainders.remainder.Goals as goal

pub returns : goal.returns
returns c =
    sym (remainder_low c.fold_byte-f.result) ∙ c.fold_byte-f.ensures ∙ c.fold_byte-e.ensures
    ∙ c.fold_byte-d.ensures ∙ c.fold_byte-c.ensures
