-- `demapping::numbers` meets its contract: the numbers before number j are there. Assumes nothing.
use Prim.Native.Nat.{◌*◌}
use Rattle.bits.specs.definitions.Bits.{field_at}
use Rattle.bits.proofs.Filling.{Filling}
use Rattle.demapping.proofs.numbers.Given as goal

abbrev pub invariant-loop-j : goal.invariant-loop-j
invariant-loop-j l = Filling (λ j. field_at l.b (64 * j) 64) 768 l.initial.out l.out l.j
