-- `demapping::pairs` meets its contract: the numbers before number i are there. Assumes nothing.
use Prim.Native.Nat.{◌+◌, ◌*◌}
use lib.ListN.{length, get_or}
use Rattle.bits.proofs.Filling.{Filling}
use Rattle.demapping.proofs.pairs.Given as goal

abbrev pub invariant-loop-i : goal.invariant-loop-i
invariant-loop-i l =
    Filling (λ k. get_or l.s (2 * k) 0 + get_or l.s (2 * k + 1) 0 * 256) (length l.initial.out) l.initial.out l.out l.i
