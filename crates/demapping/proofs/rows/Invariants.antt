-- `demapping::rows` meets its contract: the rows before row 4 q are there. Assumes nothing.
use Prim.Native.Nat.{◌*◌}
use Rattle.bits.proofs.Filling.{Filling}
use Rattle.demapping.specs.private.Gathering.{rows_at}
use Rattle.demapping.proofs.rows.Given as goal

abbrev pub invariant-loop-q : goal.invariant-loop-q
invariant-loop-q l = Filling (rows_at l.s) 1024 l.initial.out l.out (256 * l.q)
