-- `shuffle::rotate_words` meets its contract: the lanes below lane p are there, rotated. Assumes nothing.
use Rattle.shuffle.proofs.Rows.{lanes_step}
use Rattle.shuffle.proofs.rotate_words.Goals as goal

pub loop-p-preserved : goal.loop-p-preserved
loop-p-preserved g c = lanes_step c.loop-p.invariant c.rotate_lane_by.ensures
