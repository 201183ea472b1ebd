-- `lane_words::to_words` meets its contract: all words are placed. Assumes nothing.
use native.Mathlib.Omega.{arith}
use Rattle.lane_words.proofs.Thirds.{placed_as, placed_done}
use Rattle.lane_words.proofs.to_words.Goals as goal

pub returns : goal.returns
returns c = placed_done (placed_as (omega arith) c.loop-p.invariant)
