-- `pilots::Table::count_right` meets its contract: the first i pilots are counted at each offset. Assumes nothing.
use Rattle.std.proofs.Common.{◌≡◌}
use Rattle.pilots.specs.private.Pilots.{counts}
use Rattle.pilots.proofs.Table.count_right.Given as goal

abbrev pub invariant-loop-i : goal.invariant-loop-i
invariant-loop-i l = l.right ≡ counts l.symbols l.i
