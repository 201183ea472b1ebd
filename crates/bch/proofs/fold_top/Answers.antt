-- `bch::fold_top` meets its contract: 16 bits above 48. Assumes nothing.
use borrow.Author.Rules.{rules}
use Rattle.bch.proofs.Folding.{fold_top_law}
use Rattle.bch.proofs.fold_top.Goals as goal

pub returns : goal.returns
returns c = fold_top_law c.args.v (search rules)
