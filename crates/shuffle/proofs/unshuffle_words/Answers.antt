-- `shuffle::unshuffle_words` meets its contract: so is a row rotated by 90 places a lane. Assumes nothing.
use mathlib.Core.Path.{◌∙◌}
use Rattle.shuffle.proofs.Rows.{numbers_done}
use Rattle.shuffle.proofs.Places.{unshuffled_is}
use Rattle.shuffle.proofs.unshuffle_words.Goals as goal

pub returns : goal.returns
returns c = numbers_done c.rotate_words.ensures c.rotate_words.array_long ∙ unshuffled_is _
