-- `demapping::row_words` meets its contract: the bytes before byte i of each word are there. Assumes nothing.
use Prim.Native.Nat.{◌+◌, ◌/◌, ◌%◌}
use Rattle.demapping.specs.private.Gathering.{gathered_from}
use Rattle.bits.proofs.Parts.{FourParts}
use Rattle.demapping.proofs.row_words.Given as goal

abbrev pub invariant-loop-i : goal.invariant-loop-i
invariant-loop-i g l = FourParts (λ k. gathered_from l.s g.row.L (k / 16) (l.at + k % 16)) 16 l.out l.i
