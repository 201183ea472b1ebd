-- `bch::word_remainder` meets its contract: the word folded, and its digits. Assumes nothing.
use mathlib.Core.Path.{ap, ◌∙◌}
use Rattle.bch.specs.definitions.Code.{remainder}
use Rattle.bch.proofs.word_remainder.Goals as goal

pub returns : goal.returns
returns c = c.fold_digits.ensures ∙ ap (remainder 64) c.digits_of.ensures ∙ c.fold_upper.ensures
