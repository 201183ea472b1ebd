-- `lanes::permute` meets its contract: the first 16 b blocks are permuted. Assumes nothing.
use Prim.Native.Nat.{◌*◌}
use Rattle.bits.proofs.Filling.{Filling}
use Rattle.lanes.specs.definitions.Permutation.{named}
use Rattle.lanes.proofs.Bytewise.{permuted_byte}
use Rattle.lanes.proofs.permute.Given as goal

abbrev pub invariant-loop-b : goal.invariant-loop-b
invariant-loop-b l = Filling (permuted_byte (named l.exchanged) l.lanes) 5280 l.initial.out l.out (80 * l.b)
