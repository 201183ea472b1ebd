-- `pilots::first_lock` meets its contract: the run locks at no offset of the blocks before. Assumes nothing.
use Rattle.std.proofs.Common.{◌≡◌, false, ℕ, ◌*◌, ◌<◌}
use Rattle.pilots.specs.definitions.Pilots.{locks}
use Rattle.pilots.proofs.first_lock.Given as goal

abbrev pub invariant-loop-block : goal.invariant-loop-block
invariant-loop-block l = (o : ℕ) → o < 128 * l.block → locks l.run o ≡ false
