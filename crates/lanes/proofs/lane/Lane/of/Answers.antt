-- `lanes::lane::Lane::of` meets its contract: its parts are a lane's. Assumes nothing.
use mathlib.Core.Path.{ap, ap₂, ◌∙◌}
use mathlib.Core.List.{◌++◌}
use lib.ListN.{length}
use Rattle.lanes.proofs.Blocks.{first_part}
use Rattle.lanes.proofs.Bytewise.{front}
use Rattle.lanes.proofs.lane.Lane.of.Goals as goal

pub invariant_of-result : goal.invariant_of-result
invariant_of-result c =
    let frame = rw c.unwrap.ensures at c.first_chunk.ensures.cases in
    ap length (first_part c.args.frame.now _ _ _ frame) ∙ front c.args.frame.now c.args.store.now c.told-frame c.args.p c.requires

pub returns : goal.returns
returns c =
    let frame = rw c.unwrap.ensures at c.first_chunk.ensures.cases in
    let store = rw c.unwrap-2.ensures at c.first_chunk-2.ensures.cases in
    ap₂ ◌++◌ (first_part c.args.frame.now _ _ _ frame) (first_part c.args.store.now _ _ _ store)
