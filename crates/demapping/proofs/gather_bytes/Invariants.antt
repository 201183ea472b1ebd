-- `demapping::gather_bytes` meets its contract: the bytes of the rows before row 16 g are there. Assumes nothing.
use Prim.Native.Nat.{◌*◌}
use Rattle.bits.proofs.Filling.{Filling}
use Rattle.demapping.specs.private.Gathering.{gathered_at}
use Rattle.demapping.proofs.gather_bytes.Given as goal

abbrev pub invariant-loop-g : goal.invariant-loop-g
invariant-loop-g l = Filling (gathered_at l.frame) 6144 l.initial.out l.out (1024 * l.g)
