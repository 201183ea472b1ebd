-- `lanes::lane::Lane::kept` meets its contract: the test is the definition's. Assumes nothing.
use mathlib.Core.Path.{ap, ◌∙◌}
use Rattle.lanes.specs.private.Blocks.{block_of}
use Rattle.lanes.proofs.Rows.{fills_apart}
use Rattle.lanes.proofs.Blocks.{kept_entered, kept_stored}
use Rattle.lanes.proofs.lane.Lane.kept.Goals as goal

pub returns-then-q-lt11 : goal.returns-then-q-lt11
returns-then-q-lt11 g c =
    let a = c.args in
    let h = c.requires in
    let apart = fills_apart g.met.S.Side.fills in
    c.entered.ensures ∙ ap (block_of a.self.now) (kept_entered g.S.Side.rows apart a.r a.q h.0 h.1 c.if-q-lt11.true)

pub returns : goal.returns
returns g c =
    let a = c.args in
    let h = c.requires in
    let apart = fills_apart g.met.S.Side.fills in
    c.held.ensures ∙ ap (block_of a.self.now) (kept_stored g.S.Side.rows apart a.r a.q h.0 h.1 c.start.ensures.0 c.if-q-lt11.false)
