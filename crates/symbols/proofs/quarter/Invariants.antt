-- `symbols::quarter` meets its contract: the rows before row 4 q are there. Assumes nothing.
use Prim.Native.Nat.{◌*◌}
use Rattle.bits.proofs.Filling.{Filling}
use Rattle.symbols.specs.private.Numbers.{quarter_at}
use Rattle.symbols.proofs.quarter.Given as goal

abbrev pub invariant-loop-q : goal.invariant-loop-q
invariant-loop-q g l = Filling (quarter_at l.b g.row.E) 1536 l.initial.out l.out (64 * l.q)
