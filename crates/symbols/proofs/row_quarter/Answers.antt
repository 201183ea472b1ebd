-- `symbols::row_quarter` meets its contract: the symbols before symbol i are there. Assumes nothing.
use mathlib.Core.Path.{refl, ap, ◌∙◌}
use Prim.Native.Nat.{ℕ, ◌*◌}
use native.Mathlib.Omega.{arith}
use Rattle.bits.proofs.Filling.{filling_start, filling_step, filling_done}
use Rattle.symbols.specs.private.Numbers.{dibits_at}
use Rattle.symbols.proofs.Symbols.{row_at}
use Rattle.symbols.proofs.row_quarter.Goals as goal

pub loop-i-init : goal.loop-i-init
loop-i-init g c = filling_start _ (omega arith)

pub loop-i-preserved : goal.loop-i-preserved
unfolding dibits_at
loop-i-preserved g c =
    filling_step _ _ c.loop-i.invariant (omega arith)
    (c.symbol.ensures ∙ row_at c.args.rows.now g.row.E g.row.R _ _ c.loop-i.i c.requires.1 refl
    (ap (λ (r : ℕ). 64 * r) c.from-at.ensures) c.loop-i-test.true)

pub returns : goal.returns
returns g c = filling_done _ c.loop-i.invariant (omega arith)
