-- `bch::trim_words` meets its contract: nothing stands above the words before number i, which is the upper one of a word. Assumes nothing.
use mathlib.Core.Path.{◌≡◌}
use Prim.Native.Nat.{◌/◌, ◌%◌}
use Rattle.bits.specs.definitions.Words.{word_at}
use Rattle.bits.proofs.Words.{Rewriting}
use Rattle.bch.proofs.trim_words.Given as goal

abbrev pub invariant-loop-i : goal.invariant-loop-i
invariant-loop-i l = (l.i % 2 ≡ 0) × Rewriting (word_at l.initial.words) 384 l.initial.words l.words (l.i / 2)
