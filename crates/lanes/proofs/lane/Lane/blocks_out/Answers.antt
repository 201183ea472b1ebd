-- `lanes::lane::Lane::blocks_out` meets its contract: two rows come out, and the third holds nothing. Assumes nothing.
use mathlib.Core.Path.{sym, subst}
use Rattle.lanes.specs.private.Blocks.{FillStore}
use Rattle.lanes.proofs.Turns.{lane_done}
use Rattle.lanes.proofs.lane.Lane.blocks_out.Goals as goal

pub returns : goal.returns
returns g c =
    let fills = subst (FillStore g.S.Side.rows) (sym c.FIRST_KEPT-r.ensures) g.met.S.Side.fills in
    lane_done fills c.requires c.row_out.ensures c.row_out-2.ensures
