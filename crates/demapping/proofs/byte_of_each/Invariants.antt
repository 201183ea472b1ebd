-- `demapping::byte_of_each` meets its contract: the bytes before byte i are there. Assumes nothing.
use Prim.Native.Nat.{◌/◌, ◌%◌, ◌^◌}
use lib.ListN.{length, get_or}
use Rattle.bits.proofs.Filling.{Filling}
use Rattle.demapping.proofs.byte_of_each.Given as goal

abbrev pub invariant-loop-i : goal.invariant-loop-i
invariant-loop-i g l = Filling (λ k. get_or l.numbers k 0 / 256 ^ g.row.K % 256) (length l.initial.out) l.initial.out l.out l.i
