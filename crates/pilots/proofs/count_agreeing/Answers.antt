-- `pilots::count_agreeing` meets its contract: the first j counts are raised. Assumes nothing.
use Rattle.std.proofs.Common.{ℕ, ◌+◌, ◌∙◌, ap₂, eqb, get_or, arith}
use Rattle.bits.proofs.Filling.{filling_start, filling_rest, filling_step, filling_done}
use Rattle.pilots.proofs.Lock.{as_number, at_most_one}
use Rattle.pilots.proofs.count_agreeing.Goals as goal

pub loop-j-init : goal.loop-j-init
loop-j-init c = filling_start _ c.told-right

pub overflow_add-count : goal.overflow_add-count
overflow_add-count c =
    omega (
      arith,
      filling_rest _ c.loop-j.j 0 c.loop-j.invariant (omega arith),
      c.requires c.loop-j.j (omega arith),
      c.from.ensures,
      at_most_one (eqb (get_or c.args.symbols.now c.loop-j.j 0) c.args.pilot),
    )

pub loop-j-preserved : goal.loop-j-preserved
loop-j-preserved c =
    filling_step _ _ c.loop-j.invariant (omega arith)
    (ap₂ (λ (x y : ℕ). x + y) (filling_rest _ c.loop-j.j 0 c.loop-j.invariant (omega arith))
    (c.from.ensures ∙ as_number (eqb (get_or c.args.symbols.now c.loop-j.j 0) c.args.pilot)))

pub returns : goal.returns
returns c = filling_done _ c.loop-j.invariant (omega arith)
