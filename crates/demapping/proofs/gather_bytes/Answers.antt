-- `demapping::gather_bytes` meets its contract: the bytes of the rows before row 16 g are there. Assumes nothing.
use Prim.Native.Nat.{◌/◌}
use native.Mathlib.Omega.{arith}
use lib.ListN.{length}
use Rattle.bits.proofs.Filling.{filling_start, filling_done}
use Rattle.demapping.proofs.Gathering.{gather_step}
use Rattle.demapping.proofs.gather_bytes.Goals as goal

pub loop-g-init : goal.loop-g-init
loop-g-init c = filling_start _ (omega arith)

pub loop-g-preserved : goal.loop-g-preserved
loop-g-preserved c =
    let long = c.as_chunks.ensures.front_len in
    gather_step c.args.frame.now c.loop-g.g (length c.args.frame.now / 1024) (omega (arith, long)) (omega arith) c.as_chunks.ensures.front
    c.loop-g.invariant c.sixteen_rows.ensures

pub returns : goal.returns
returns c = filling_done _ c.loop-g.invariant (omega (arith, c.as_chunks.ensures.front_len))
