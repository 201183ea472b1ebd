-- `symbols::put_pilots` meets its contract: the pilots before pilot g are there. Assumes nothing.
use Rattle.symbols.proofs.Symbols.{Piloted}
use Rattle.symbols.proofs.put_pilots.Given as goal

abbrev pub invariant-loop-g : goal.invariant-loop-g
invariant-loop-g l = Piloted l.initial.frame l.g l.frame
