-- `pilots::is_lock` meets its contract: those of the first i pilots that are not met are counted. Assumes nothing.
use Rattle.std.proofs.Common.{◌≡◌, Bool, not, ℕ, ◌≤◌}
use Rattle.bits.specs.definitions.Bits.{count}
use Rattle.pilots.specs.private.Pilots.{AnswersBy}
use Rattle.pilots.proofs.is_lock.Given as goal

abbrev pub invariant-loop-i : goal.invariant-loop-i
invariant-loop-i g l = (l.wrong ≤ l.i) × ((p : ℕ → Bool) → AnswersBy (goal.F-post g l.met) p → l.wrong ≡ count (λ i. not (p i)) l.i)
