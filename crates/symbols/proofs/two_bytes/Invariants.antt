-- `symbols::two_bytes` meets its contract: the numbers before number i are there. Assumes nothing.
use Prim.Native.Nat.{◌+◌, ◌*◌}
use lib.ListN.{get_or}
use Rattle.bits.proofs.Filling.{Filling}
use Rattle.symbols.proofs.two_bytes.Given as goal

abbrev pub invariant-loop-i : goal.invariant-loop-i
invariant-loop-i l = Filling (λ k. get_or l.x k 0 + get_or l.y k 0 * 256) 1536 l.initial.out l.out l.i
