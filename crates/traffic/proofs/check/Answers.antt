-- `traffic::check` meets its contract: `checks_counted`, with the fill that the frame has. Assumes nothing.
use mathlib.Core.Path.{◌≡◌, ap, ◌∙◌}
use native.Mathlib.Omega.{arith}
use Rattle.traffic.specs.definitions.Register.{state_after}
use Rattle.traffic.specs.definitions.Traffic.{traffic_from}
use Rattle.traffic.proofs.Counts.{FillOf, start, checks_counted}
use Rattle.traffic.proofs.check.Goals.{in-0, in-1, in_default}
use Rattle.traffic.proofs.check.Goals as goal

pub returns : goal.returns
returns c =
    let lanes = rw c.in_ok-lanes.ensures.ok_part at c.as_array.ensures.cases in
    let wrong = rw c.in_ok-wrong.ensures.ok_part at c.as_mut_array.ensures.cases in
    let sent : c.generate.new.lanes ≡ traffic_from (state_after (start c.args.f)) =
    c.generate.ensures.1 ∙ ap traffic_from (c.after.ensures ∙ ap state_after c.start_of.ensures) in
    let F : FillOf c.args.f c.match-f.fill = elim c.match-f.branch [ in-0 w ↦ omega arith | in-1 w ↦ omega arith | in_default w ↦ omega arith ] in
    checks_counted _ _ lanes wrong.long F sent c.count_lanes.ensures
