-- `lanes::lane::Lane::row_kept` meets its contract: the blocks before place q are kept. Assumes nothing.
use mathlib.Core.Path.{◌∙◌}
use Prim.Native.Nat.{ℕ, ◌+◌, ◌*◌}
use native.Mathlib.Omega.{arith}
use Rattle.bits.proofs.Filling.{filling_start}
use Rattle.lanes.specs.private.Blocks.{kept_from}
use Rattle.lanes.proofs.Bytewise.{block_step}
use Rattle.lanes.proofs.lane.Lane.row_kept.Goals as goal

pub loop-q-init : goal.loop-q-init
loop-q-init g c = filling_start _ c.requires.1

pub loop-q-preserved : goal.loop-q-preserved
loop-q-preserved g c =
    let a = c.args in
    let R = g.S.Side.rows in
    let q = c.loop-q.q in
    let from : ℕ → ℕ = λ j. kept_from R (R.start a.r + j) in
    let put = c.put_block in
    block_step a.self.now from q (5 * q + 5) _ c.loop-q.invariant (omega arith) put.auto.out (put.ensures ∙ c.kept.ensures)
