-- `lanes::lane::Lane::held` meets its contract. Assumes nothing.
use mathlib.Core.Path.{◌∙◌}
use Rattle.lanes.proofs.Blocks.{first_part, store_block}
use Rattle.lanes.proofs.lane.Lane.held.Goals as goal

pub returns : goal.returns
returns c =
    let lane = c.self.inside in
    let block = rw c.unwrap.ensures at c.first_chunk.ensures.cases in
    first_part lane.store.now _ _ _ block ∙ store_block lane.frame.now lane.store.now c.args.q c.self.view_is c.self.invariant
