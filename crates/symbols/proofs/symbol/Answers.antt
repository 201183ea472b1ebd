-- `symbols::symbol` meets its contract: `symbol_sum`. Assumes nothing.
use mathlib.Core.Path.{◌≡◌, ◌∙◌}
use Prim.Native.Nat.{◌+◌, ◌<◌}
use native.Mathlib.Omega.{arith}
use Rattle.symbols.specs.definitions.Dibits.{turned}
use Rattle.symbols.specs.private.Numbers.{mapped, dibits_of}
use Rattle.symbols.proofs.Symbols.{symbol_values}
use Rattle.symbols.proofs.symbol.Goals.{After-put_dibit-z}
use Rattle.symbols.proofs.symbol.Goals as goal

values : (g : _) (c : After-put_dibit-z g)
    → let v = c.put_dibit-w.result + c.put_dibit-x.result + c.put_dibit-y.result + c.put_dibit-z.result in
    (turned c.args.l v ≡ mapped c.args.l (dibits_of c.args.bytes g.row.E)) × (v < 256)
values g c =
    symbol_values c.args.l g.row.E c.args.bytes c.requires.1 c.requires.0 c.tributary.ensures c.tributary-2.ensures c.tributary-3.ensures
    c.tributary-4.ensures c.put_dibit-w.ensures c.put_dibit-x.ensures c.put_dibit-y.ensures c.put_dibit-z.ensures

pub overflow_add-w : goal.overflow_add-w
overflow_add-w g c = omega (arith, (values g (goal.at.overflow_add-w g c).After-put_dibit-z).1)

pub overflow_add-w-2 : goal.overflow_add-w-2
overflow_add-w-2 g c = omega (arith, (values g (goal.at.overflow_add-w-2 g c).After-put_dibit-z).1)

pub overflow_add-w-3 : goal.overflow_add-w-3
overflow_add-w-3 g c = omega (arith, (values g (goal.at.overflow_add-w-3 g c).After-put_dibit-z).1)

pub returns : goal.returns
returns g c = c.turned.ensures ∙ (values g (goal.at.returns g c).After-put_dibit-z).0
