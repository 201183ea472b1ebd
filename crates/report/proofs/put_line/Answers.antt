-- `report::put_line` meets its contract: name, number and line's end make the line. Assumes nothing.
use mathlib.Core.Path.{ap, ap₂, ◌∙◌}
use mathlib.Core.List.{List, [], ◌∷◌, ◌++◌}
use Prim.Native.Nat.{ℕ}
use native.Mathlib.Omega.{arith}
use Rattle.report.proofs.Decimal.{decimal_printed}
use Rattle.report.proofs.Writing.{line_behind}
use Rattle.report.proofs.put_line.Goals as goal

pub returns-clause-items : goal.returns-clause-items
returns-clause-items g c =
    let number = c.format.ensures.text ∙ decimal_printed c.args.n (omega arith) in
    c.push.ensures.items
    ∙ ap (λ (l : List ℕ). l ++ (10 ∷ [])) (c.put-2.ensures ∙ ap₂ ◌++◌ c.put.ensures (c.as_bytes.ensures.value ∙ number))
    ∙ line_behind c.args.report.now.items c.args.name.now c.args.n
