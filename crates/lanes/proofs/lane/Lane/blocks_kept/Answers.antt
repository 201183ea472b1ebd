-- `lanes::lane::Lane::blocks_kept` meets its contract: its two rows fill the part. Assumes nothing.
use mathlib.Core.Path.{sym, subst}
use Rattle.lanes.specs.private.Blocks.{FillStore}
use Rattle.lanes.proofs.Bytewise.{rows_joined}
use Rattle.lanes.proofs.lane.Lane.blocks_kept.Goals as goal

pub returns : goal.returns
returns g c =
    let fills = subst (FillStore g.S.Side.rows) (sym c.FIRST_KEPT-r.ensures) g.met.S.Side.fills in
    rows_joined c.args.self.now fills c.row_kept.ensures c.row_kept-2.ensures
