-- `shuffle::rotate_lane` meets its contract: the lane's words before word k are there, rotated. Assumes nothing.
use mathlib.Core.Path.{refl}
use Rattle.bits.specs.definitions.Words.{word_at}
use Rattle.shuffle.proofs.Rows.{lane_step}
use Rattle.shuffle.proofs.rotate_lane.Goals as goal

pub loop-k-preserved : goal.loop-k-preserved
unfolding word_at
loop-k-preserved g c = lane_step c.loop-k.invariant c.put_word.ensures c.rotate.ensures.value refl c.requires.0
