-- `pilots::count_same` meets its contract: those of the first k that agree are counted. Assumes nothing.
use Rattle.std.proofs.Common.{◌≡◌, eqb, get_or}
use Rattle.bits.specs.definitions.Bits.{count}
use Rattle.pilots.proofs.count_same.Given as goal

abbrev pub invariant-loop-k : goal.invariant-loop-k
invariant-loop-k l = l.same ≡ count (λ j. eqb (get_or l.symbols j 0) (get_or l.pilots j 0)) l.k
