-- `bch::fold_upper` meets its contract: 31 bits above 64, and the 31 above those. Assumes nothing.
use mathlib.Core.Path.{refl}
use borrow.Author.Rules.{rules}
use Rattle.bch.proofs.Folding.{fold_upper_law}
use Rattle.bch.proofs.fold_upper.Goals as goal

pub returns : goal.returns
returns c = fold_upper_law c.args.word.hi c.args.word.lo _ _ (search rules) refl refl
