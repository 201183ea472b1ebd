-- `demapping::numbers` meets its contract: the numbers before number j are there. Assumes nothing.
use mathlib.Core.Path.{◌∙◌}
use Prim.Native.Nat.{◌/◌}
use native.Mathlib.Omega.{arith}
use lib.ListN.{length}
use Rattle.bits.proofs.Filling.{filling_start, filling_step, filling_done}
use Rattle.demapping.proofs.Gathering.{number_is}
use Rattle.demapping.proofs.numbers.Goals as goal

pub loop-j-init : goal.loop-j-init
loop-j-init c = filling_start _ (omega arith)

pub loop-j-preserved : goal.loop-j-preserved
loop-j-preserved c =
    let long = c.as_chunks.ensures.front_len in
    filling_step _ _ c.loop-j.invariant (omega (arith, long))
    (c.from_be_bytes.ensures
    ∙ number_is c.args.b.now c.loop-j.j (length c.args.b.now / 8) (record { byte = c.fits-b }) (omega (arith, long)) (omega arith)
    c.as_chunks.ensures.front)

pub returns : goal.returns
returns c = filling_done _ c.loop-j.invariant (omega (arith, c.as_chunks.ensures.front_len))
