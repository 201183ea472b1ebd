-- `lanes::interleave` meets its contract: `interleave_law`. Assumes nothing.
use Rattle.lanes.proofs.Frames.{interleave_law}
use Rattle.lanes.proofs.interleave.Goals as goal

pub returns : goal.returns
returns c =
    let a = c.args in
    let passed = c.pass_lanes.ensures in
    let both = interleave_law a.exchanged a.lanes.now a.store.now (record { byte = c.fits-store }) c.permute.ensures passed.comes_out passed.is_kept in
    record { out_after = both.0; store_after = both.1 }
