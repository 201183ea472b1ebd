-- `symbols::row_quarter` meets its contract: the symbols before symbol i are there. Assumes nothing.
use Prim.Native.Nat.{◌+◌, ◌*◌}
use Rattle.bits.proofs.Filling.{Filling}
use Rattle.symbols.specs.private.Numbers.{quarter_at}
use Rattle.symbols.proofs.row_quarter.Given as goal

abbrev pub invariant-loop-i : goal.invariant-loop-i
invariant-loop-i g l = Filling (λ k. quarter_at l.rows g.row.E (16 * g.row.R + k)) 16 l.initial.place-items l.place-items l.i
