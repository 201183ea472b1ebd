-- `demapping::read_words` meets its contract: the words are gathered, and then shuffled back. Assumes nothing.
use mathlib.Core.Path.{◌∙◌}
use Rattle.demapping.proofs.Gathering.{words_is}
use Rattle.demapping.proofs.read_words.Goals as goal

pub returns : goal.returns
returns c = c.unshuffle_words.ensures ∙ words_is _ _ c.gather_bytes.ensures _ c.numbers.ensures
