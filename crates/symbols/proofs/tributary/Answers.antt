-- `symbols::tributary` meets its contract: numbers that differ by fours. Assumes nothing.
use native.Mathlib.Omega.{arith}
use Rattle.symbols.specs.definitions.Dibits.{tributary_in}
use Rattle.symbols.proofs.tributary.Goals as goal

pub returns : goal.returns
unfolding tributary_in
returns c = omega arith
