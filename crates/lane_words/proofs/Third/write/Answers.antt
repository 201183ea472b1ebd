-- `lane_words::Third::write` meets its contract: the bytes of the first j numbers are written. Assumes nothing.
use native.Mathlib.Omega.{arith}
use Rattle.lane_words.proofs.LaneWords.{lanes_bytes}
use Rattle.lane_words.proofs.Joining.{written_as, written_put}
use Rattle.lane_words.proofs.Third.write.Goals as goal

pub loop-j-preserved : goal.loop-j-preserved
loop-j-preserved c =
    let W = c.loop-j.invariant in
    written_put c.args.self.p c.args.self.t c.loop-j.j _ (lanes_bytes _) c.join.ensures (omega arith) c.start.ensures (omega arith) (omega arith) W
    (c.put.ensures.room (omega (arith, W.long)))

pub returns : goal.returns
returns c = written_as (omega arith) c.loop-j.invariant
