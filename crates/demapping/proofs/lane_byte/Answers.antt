-- `demapping::lane_byte` meets its contract: `gathered_sum`. Assumes nothing.
use mathlib.Core.Path.{◌≡◌}
use Prim.Native.Nat.{◌+◌, ◌<◌}
use native.Mathlib.Omega.{arith}
use Rattle.demapping.specs.private.Gathering.{gathered_turned}
use Rattle.demapping.proofs.Gathering.{gathered_sum}
use Rattle.demapping.proofs.lane_byte.Goals.{After-put_dibit-z}
use Rattle.demapping.proofs.lane_byte.Goals as goal

sum : (g : _) (c : After-put_dibit-z g)
    → let v = c.put_dibit-w.result + c.put_dibit-x.result + c.put_dibit-y.result + c.put_dibit-z.result in
    (v ≡ gathered_turned g.row.L g.row.Q c.args.four) × (v < 256)
sum g c =
    gathered_sum g.row.L g.row.Q c.args.four c.tributary.ensures c.tributary-2.ensures c.tributary-3.ensures c.tributary-4.ensures
    c.put_dibit-w.ensures c.put_dibit-x.ensures c.put_dibit-y.ensures c.put_dibit-z.ensures

pub overflow_add-result : goal.overflow_add-result
overflow_add-result g c = omega (arith, (sum g (goal.at.overflow_add-result g c).After-put_dibit-z).1)

pub overflow_add-result-2 : goal.overflow_add-result-2
overflow_add-result-2 g c = omega (arith, (sum g (goal.at.overflow_add-result-2 g c).After-put_dibit-z).1)

pub overflow_add-result-3 : goal.overflow_add-result-3
overflow_add-result-3 g c = omega (arith, (sum g (goal.at.overflow_add-result-3 g c).After-put_dibit-z).1)

pub returns : goal.returns
returns g c = (sum g (goal.at.returns g c).After-put_dibit-z).0
