-- `bch::word_in` meets its contract: a word's two numbers stand side by side. Assumes nothing.
use mathlib.Core.Path.{refl}
use Rattle.bits.specs.definitions.Words.{word_at}
use Rattle.bch.proofs.word_in.Goals as goal

pub returns : goal.returns
unfolding word_at
returns c = refl
