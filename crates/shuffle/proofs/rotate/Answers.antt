-- `shuffle::rotate` meets its contract: `rotate_law`. Assumes nothing.
use borrow.Author.Rules.{rules}
use Rattle.shuffle.proofs.Rotating.{rotate_law}
use Rattle.shuffle.proofs.rotate.Goals as goal

pub returns-clause-value : goal.returns-clause-value
returns-clause-value c =
    let h = c.rotate_halves-first in
    rotate_law c.args.n c.args.word.hi c.args.word.lo _ _ c.requires (search rules) h.result.bounded.0 h.result.bounded.1 h.ensures.0 h.ensures.1
