-- `bch::ByteRemainders::fold_byte` meets its contract, by the law of a byte. Assumes nothing.
use mathlib.Core.Path.{◌∙◌}
use native.Mathlib.Omega.{arith}
use Rattle.bch.proofs.Folding.{fold_byte_law}
use Rattle.bch.proofs.ByteRemainders.fold_byte.Goals as goal

pub returns : goal.returns
returns c = fold_byte_law _ _ _ c.requires (c.from-r.ensures ∙ c.of.ensures) (omega arith)
