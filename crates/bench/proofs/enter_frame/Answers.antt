-- `bench::enter_frame` meets its contract: what receiving the words and the entry answered. Assumes nothing.
use Rattle.std.proofs.Common.{refl}
use Rattle.bench.proofs.Frames.{lost, entered, refusal_some}
use Rattle.bench.proofs.enter_frame.Goals as goal

pub returns-in-Ok : goal.returns-in-Ok
returns-in-Ok c = entered _ _ c.in-Ok.ensures c.requires refl _ c.tallies_of-tallies.ensures _ c.enter.ensures

pub returns-in-Err : goal.returns-in-Err
returns-in-Err c = lost _ _ c.in-Err.ensures c.requires (refusal_some _) _ c.lose.ensures
