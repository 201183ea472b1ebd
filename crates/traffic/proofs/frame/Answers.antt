-- `traffic::frame` meets its contract: `continues_frame`, from the state found directly. Assumes nothing.
use mathlib.Core.Path.{◌≡◌, ap, ◌∙◌}
use Prim.Native.Nat.{◌*◌}
use native.Mathlib.Omega.{arith}
use Rattle.traffic.specs.definitions.Register.{state_after}
use Rattle.traffic.proofs.Frames.{continues_frame}
use Rattle.traffic.proofs.frame.Goals as goal

pub returns : goal.returns
returns c =
    let f = c.args.f in
    let e : c.from.result * 42240 ≡ 42240 * f = omega (arith, c.from.ensures) in
    continues_frame f (c.state_after-state.ensures ∙ ap state_after e) c.next_frame.ensures
