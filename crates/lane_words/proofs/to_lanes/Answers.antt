-- `lane_words::to_lanes` meets its contract: all bytes are written. Assumes nothing.
use native.Mathlib.Omega.{arith}
use Rattle.lane_words.proofs.Joining.{written_done}
use Rattle.lane_words.proofs.to_lanes.Goals as goal

pub returns : goal.returns
returns c = written_done _ c.loop-p.invariant (omega arith)
