-- `lanes::permute` meets its contract: the first 16 b blocks are permuted. Assumes nothing.
use mathlib.Core.Path.{refl}
use native.Mathlib.Omega.{arith}
use Rattle.bits.specs.definitions.Bits.{bytes}
use Rattle.bits.proofs.Filling.{filling_start, filling_done}
use Rattle.lanes.specs.definitions.Permutation.{named, lane_bytes}
use Rattle.lanes.proofs.Blocks.{first_part}
use Rattle.lanes.proofs.Bytewise.{permuted_byte, permuted_at, lane_step}
use Rattle.lanes.proofs.permute.Goals as goal

pub loop-b-init : goal.loop-b-init
loop-b-init c = filling_start _ (omega arith)

pub loop-b-preserved : goal.loop-b-preserved
loop-b-preserved c =
    let b = c.loop-b.b in
    let x = c.args.lanes.now in
    let ex = named c.args.exchanged in
    let own = rw c.unwrap.ensures at c.first_chunk.ensures.cases in
    let partners = rw c.unwrap-in-loop-b.ensures at c.first_chunk-in-loop-b.ensures.cases in
    lane_step (permuted_byte ex x) 80 b _ _ _ c.loop-b.invariant refl (omega arith) c.merge_blocks.ensures
    (permuted_at ex b _ x (record { byte = c.fits-lanes }) c.mask_row-row.ensures (omega arith) refl (first_part x _ _ _ own)
    (first_part x _ _ _ partners))

pub returns : goal.returns
unfolding lane_bytes bytes
returns c = filling_done _ c.loop-b.invariant (omega arith)
