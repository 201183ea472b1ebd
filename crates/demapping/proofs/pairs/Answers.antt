-- `demapping::pairs` meets its contract: the numbers before number i are there. Assumes nothing.
use mathlib.Core.Path.{refl, ◌∙◌}
use Prim.Native.Nat.{◌/◌}
use native.Mathlib.Omega.{arith}
use lib.ListN.{length}
use Rattle.bits.proofs.Filling.{filling_start, filling_step, filling_done}
use Rattle.demapping.proofs.Gathering.{pair_is}
use Rattle.demapping.proofs.pairs.Goals as goal

pub loop-i-init : goal.loop-i-init
loop-i-init c = filling_start _ refl

pub loop-i-preserved : goal.loop-i-preserved
loop-i-preserved c =
    let long = c.as_chunks.ensures.front_len in
    filling_step _ _ c.loop-i.invariant (omega (arith, long, c.requires))
    (c.from_le_bytes.ensures ∙ pair_is c.args.s.now c.loop-i.i (length c.args.s.now / 2) (omega (arith, long)) c.as_chunks.ensures.front)

pub returns : goal.returns
returns c = filling_done _ c.loop-i.invariant (omega (arith, c.as_chunks.ensures.front_len, c.requires))
