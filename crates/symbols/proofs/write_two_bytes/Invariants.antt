-- `symbols::write_two_bytes` meets its contract: the bytes before byte 4 i are there. Assumes nothing.
use Prim.Native.Nat.{◌*◌}
use Rattle.bits.proofs.Filling.{Filling}
use Rattle.symbols.specs.private.Numbers.{byte_of_two}
use Rattle.symbols.proofs.write_two_bytes.Given as goal

abbrev pub invariant-loop-i : goal.invariant-loop-i
invariant-loop-i l = Filling (byte_of_two l.x l.y) 6144 l.initial.out l.out (4 * l.i)
