-- `bch::fold_digit` meets its contract, by the law of a digit. Assumes nothing.
use borrow.Author.Rules.{rules}
use Rattle.bch.proofs.Digits.{fold_digit_law}
use Rattle.bch.proofs.fold_digit.Goals as goal

pub returns : goal.returns
returns c = fold_digit_law c.args.r c.args.d (search rules) (search rules)
