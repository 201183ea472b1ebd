-- `traffic::next_frame` meets its contract: the frame from the state's 31 bits on. Assumes nothing.
use mathlib.Core.Path.{ap, ◌∙◌}
use Prim.Native.Nat.{ℕ}
use Rattle.traffic.specs.definitions.Register.{state_from}
use Rattle.traffic.specs.definitions.Traffic.{traffic_from}
use Rattle.traffic.proofs.Register.{from_mod}
use Rattle.traffic.proofs.Frames.{continues_done, from_top}
use Rattle.traffic.proofs.next_frame.Goals as goal

pub returns : goal.returns
returns c =
    let s = c.args.state.now in
    let whole = rw c.in_ok-lanes.ensures.ok_part at c.as_mut_array.ensures.cases in
    continues_done s c.args.output.now _ _ whole.long
    (c.from-2.ensures ∙ c.generate.ensures.0 ∙ ap (λ (x : ℕ). state_from x 42240) c.from.ensures ∙ from_mod s 42239)
    (c.generate.ensures.1 ∙ ap traffic_from c.from.ensures ∙ from_top s)
