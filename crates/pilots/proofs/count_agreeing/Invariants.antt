-- `pilots::count_agreeing` meets its contract: the first j counts are raised. Assumes nothing.
use Rattle.std.proofs.Common.{cond, ◌+◌, eqb, get_or}
use Rattle.bits.proofs.Filling.{Filling}
use Rattle.pilots.proofs.count_agreeing.Given as goal

abbrev pub invariant-loop-j : goal.invariant-loop-j
invariant-loop-j l = Filling (λ k. get_or l.initial.right k 0 + cond (eqb (get_or l.symbols k 0) l.pilot) 1 0) 128 l.initial.right l.right l.j
