-- `pilots::frame_locks` meets its contract: what is asked of a pilot is whether it is met. Assumes nothing.
use Rattle.std.proofs.Common.{rules}
use Rattle.pilots.specs.definitions.Table5.{pilots}
use Rattle.pilots.specs.definitions.Pilots.{met, locks, wrong_pilots}
use Rattle.pilots.proofs.frame_locks.Goals as goal

pub returns : goal.returns
unfolding locks wrong_pilots met pilots
returns c = c.is_lock.ensures (met c.args.symbols.now 0) (λ i b h q. search rules)
