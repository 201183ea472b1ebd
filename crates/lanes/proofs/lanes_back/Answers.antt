-- `lanes::lanes_back` meets its contract: `deinterleave_law`. Assumes nothing.
use native.Mathlib.Omega.{arith}
use Rattle.lanes.proofs.Frames.{deinterleave_law}
use Rattle.lanes.proofs.lanes_back.Goals as goal

pub returns : goal.returns
returns c =
    let a = c.args in
    let passed = c.pass_lanes.ensures in
    let both = deinterleave_law a.exchanged a.lanes.now a.store.now (record { byte = c.fits-store }) (omega arith) (record { byte = c.fits-lanes })
    passed.comes_out passed.is_kept c.permute.ensures in
    record { out_after = both.0; store_after = both.1 }
