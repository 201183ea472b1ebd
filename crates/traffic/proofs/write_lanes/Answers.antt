-- `traffic::write_lanes` meets its contract: block after block, `placed_step`. Assumes nothing.
use Rattle.traffic.proofs.Placing.{placed_step}
use Rattle.traffic.proofs.write_lanes.Goals as goal

pub loop-i-preserved : goal.loop-i-preserved
loop-i-preserved c = placed_step c.loop-i.invariant c.read_rows.ensures c.put_blocks.ensures
