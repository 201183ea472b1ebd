-- The loop of `traffic::read_rows`: the first j rows are read. Assumes nothing.
use Prim.Native.Nat.{◌+◌, ◌*◌}
use Rattle.bits.proofs.Filling.{Filling}
use Rattle.traffic.specs.private.Lanes.{row_of}
use Rattle.traffic.proofs.read_rows.Given as goal

abbrev pub invariant-loop-j : goal.invariant-loop-j
invariant-loop-j l = Filling (λ k. row_of l.words (4 * l.i + k)) 4 l.initial.rows l.rows l.j
