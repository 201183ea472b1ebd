-- `bits::load` meets its contract: the eight bytes are the library's number. Assumes nothing.
use native.Mathlib.Omega.{arith}
use mathlib.Core.Path.{◌∙◌}
use Rattle.bits.proofs.Joins.{loaded_none, load_eight}
use Rattle.bits.proofs.load.Goals as goal

pub returns-then-s-lt8 : goal.returns-then-s-lt8
returns-then-s-lt8 c = loaded_none _ _ (omega arith)

pub returns : goal.returns
returns c = c.from_be_bytes.ensures ∙ load_eight c.args.s.now c.args.o (record { byte = λ m. omega (arith, c.type_inv.s m) }) (omega arith)
