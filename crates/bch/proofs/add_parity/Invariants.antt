-- `bch::add_parity` meets its contract: the words before word i have their parity. Assumes nothing.
use mathlib.Core.List.{List}
use Prim.Native.Nat.{ℕ}
use Rattle.bits.specs.definitions.Words.{word_at}
use Rattle.bits.proofs.Words.{Rewriting}
use Rattle.bch.specs.definitions.Code.{coded}
use Rattle.bch.specs.definitions.Word.{information_of}
use Rattle.bch.proofs.add_parity.Given as goal

abbrev pub sent : List ℕ → ℕ → ℕ
sent s i = coded (information_of (word_at s i))

abbrev pub invariant-loop-i : goal.invariant-loop-i
invariant-loop-i l = Rewriting (sent l.initial.words) 384 l.initial.words l.words l.i
