-- `traffic::count_lanes` meets its contract: lane after lane, `lane_differs`. Assumes nothing.
use mathlib.Core.Path.{◌∙◌}
use native.Mathlib.Omega.{arith}
use Rattle.bits.proofs.Filling.{filling_start, filling_step, filling_done}
use Rattle.traffic.proofs.Counting.{lane_fits, lane_differs}
use Rattle.traffic.proofs.count_lanes.Goals as goal

pub loop-p-init : goal.loop-p-init
loop-p-init c = filling_start _ c.told-wrong

pub differing-requires : goal.differing-requires
differing-requires c =
    lane_fits _ _ c.requires c.loop-p-test.true c.as_chunks.ensures.front c.as_chunks-2.ensures.front c.told-lanes c.told-sent c.fits-lanes c.fits-sent

pub loop-p-preserved : goal.loop-p-preserved
loop-p-preserved c =
    filling_step _ _ c.loop-p.invariant c.loop-p-test.true
    (c.differing.ensures
    ∙ lane_differs _ _ c.requires c.loop-p-test.true c.as_chunks.ensures.front c.as_chunks-2.ensures.front c.told-lanes c.told-sent c.fits-lanes c.fits-sent)

pub returns : goal.returns
returns c = filling_done _ c.loop-p.invariant (omega arith)
