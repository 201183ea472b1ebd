-- `lanes::lane::Lane::turned_out` meets its contract: the test is the definition's. Assumes nothing.
use mathlib.Core.Path.{ap, ◌∙◌}
use Rattle.lanes.specs.private.Blocks.{block_of}
use Rattle.lanes.proofs.Blocks.{out_stored, out_entered}
use Rattle.lanes.proofs.lane.Lane.turned_out.Goals as goal

pub returns-then-t-d : goal.returns-then-t-d
returns-then-t-d g c =
    let a = c.args in
    c.held.ensures ∙ ap (block_of a.self.now) (out_stored g.S.Side.rows a.r a.t c.requires.0 c.start.ensures.0 c.depth-d.ensures.0 c.if-t-d.true)

pub returns : goal.returns
returns g c =
    let a = c.args in
    c.entered.ensures ∙ ap (block_of a.self.now) (out_entered g.S.Side.rows a.r a.t c.requires.0 c.depth-d.ensures.0 c.if-t-d.false)
