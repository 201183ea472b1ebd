-- `symbols::put_pilots` meets its contract: the pilots before pilot g are there. Assumes nothing.
use mathlib.Core.Path.{ap}
use mathlib.Core.List.{List}
use Prim.Native.Nat.{ℕ}
use native.Mathlib.Omega.{arith}
use lib.ListN.{get_or}
use Rattle.symbols.proofs.Symbols.{piloted_start, piloted_step, piloted_done}
use Rattle.symbols.proofs.put_pilots.Goals as goal

pub loop-g-init : goal.loop-g-init
loop-g-init c = piloted_start (omega arith)

pub loop-g-preserved : goal.loop-g-preserved
loop-g-preserved c =
    piloted_step c.loop-g.invariant c.loop-g-test.true (ap (λ (t : List ℕ). get_or t c.loop-g.g 0) c.pilots-pilots.ensures)

pub returns : goal.returns
returns c = piloted_done c.loop-g.invariant (omega arith)
