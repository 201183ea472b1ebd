-- `symbols::frame_from_words` meets its contract: the words are shuffled, and mapped, and then the pilots are put in. Assumes nothing.
use mathlib.Core.Path.{◌∙◌}
use Rattle.symbols.proofs.Symbols.{frame_is}
use Rattle.symbols.proofs.frame_from_words.Goals as goal

pub returns : goal.returns
returns c = c.put_pilots.ensures ∙ frame_is _ _ _ c.shuffle_words.ensures c.map_bytes.ensures
