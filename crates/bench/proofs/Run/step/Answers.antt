-- `bench::Run::step` meets its contract: a frame's symbols are there where one record is read alone. Assumes nothing.
use Rattle.bench.proofs.Steps.{symbols_alone}
use Rattle.bench.proofs.Run.step.Goals as goal

pub came-requires : goal.came-requires
came-requires c = symbols_alone _ _ c.read_one.ensures
