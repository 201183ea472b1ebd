-- `lanes::pass_lanes` meets its contract: the lanes before lane p have come out, and are kept. Assumes nothing.
use mathlib.Core.Path.{refl}
use Prim.Native.Nat.{◌+◌, ◌*◌}
use native.Mathlib.Omega.{arith}
use lib.ListN.{length-take, length-drop}
use Rattle.bits.proofs.Filling.{filling_start}
use Rattle.lanes.specs.private.Blocks.{out_from, kept_from}
use Rattle.lanes.proofs.Bytewise.{out_of, kept_of, lane_block, lane_step, five_165, five_90}
use Rattle.lanes.proofs.Turns.{own_lane}
use Rattle.lanes.proofs.pass_lanes.Goals as goal

pub loop-p-init : goal.loop-p-init
loop-p-init g c = record { comes_out = filling_start _ (omega arith); is_kept = filling_start _ (omega arith) }

pub blocks_out-requires : goal.blocks_out-requires
blocks_out-requires g c =
    let x = c.args.frame.now in
    let s = c.args.store.now in
    let p = c.loop-p.p in (
      simp (length-take, length-drop) (omega arith),
      own_lane x s p (165 * p + 165) c.told-frame c.requires c.loop-p.invariant.comes_out (omega arith) c.of-lane.ensures,
    )

pub loop-p-preserved : goal.loop-p-preserved
loop-p-preserved g c =
    let x = c.args.frame.now in
    let s = c.args.store.now in
    let R = g.S.Side.rows in
    let p = c.loop-p.p in
    let lane = c.of-lane.ensures in
    record {
      comes_out =
          lane_step (out_of R x s) 165 p _ _ _ c.loop-p.invariant.comes_out refl (omega arith) c.blocks_out.ensures
          (λ k. lane_block x s (out_from R) 165 p k lane five_165);
      is_kept =
          lane_step (kept_of R x s) 90 p _ _ _ c.loop-p.invariant.is_kept refl (omega arith) c.blocks_kept.ensures
          (λ k. lane_block x s (kept_from R) 90 p k lane five_90);
    }
