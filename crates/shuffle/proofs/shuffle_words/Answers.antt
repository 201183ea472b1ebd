-- `shuffle::shuffle_words` meets its contract: so is a row rotated by 20 places a lane. Assumes nothing.
use mathlib.Core.Path.{ap, ◌∙◌}
use Rattle.bits.specs.definitions.Words.{word_bytes}
use Rattle.shuffle.proofs.Rows.{bytes_done}
use Rattle.shuffle.proofs.Places.{shuffled_is}
use Rattle.shuffle.proofs.shuffle_words.Goals as goal

pub returns : goal.returns
returns c = bytes_done c.rotate_words.ensures c.rotate_words.array_long ∙ ap (word_bytes 384) (shuffled_is _)
