-- `bch::fold_digits` meets its contract: one digit below the other. Assumes nothing.
use Rattle.bch.proofs.Digits.{fold_digits_law}
use Rattle.bch.proofs.fold_digits.Goals as goal

pub returns : goal.returns
returns c = fold_digits_law c.args.digits.now c.fits-digits c.fold_digit-r.ensures c.fold_digit-s.ensures c.fold_digit.ensures
