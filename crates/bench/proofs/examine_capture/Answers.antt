-- `bench::examine_capture` meets its contract. The invariant: from here on the walk comes to what the whole examination comes to.
-- Assumes nothing.
use Rattle.std.proofs.Common.{◌≡◌, ◌∙◌, rules, arith}
use Rattle.capture.specs.definitions.Read.{read_in}
use Rattle.capture.specs.definitions.Capture.{next_of}
use Rattle.capture.proofs.Determined.{standing_read}
use Rattle.bench.proofs.Steps.{symbols_there}
use Rattle.bench.proofs.Walk.{walk_starts, moves_inside, walk_on, walk_over}
use Rattle.bench.proofs.examine_capture.Goals.{After-next_place-next}
use Rattle.bench.proofs.examine_capture.Goals as goal

pub loop-place-init : goal.loop-place-init
loop-place-init c = walk_starts _ _ c.begun-run.ensures

pub came-requires : goal.came-requires
came-requires c = symbols_there _ _ _ c.read_at-read.ensures

-- the place behind what was read, whatever tells of a refusal
next_is : (c : After-next_place-next) → c.next_place-next.result ≡ next_of (read_in c.read_at-read.result) c.loop-place.place
next_is c = c.next_place-next.ensures ∙ standing_read c.read_at-read.result c.loop-place.place

pub returns-then-next-place : goal.returns-then-next-place
returns-then-next-place c =
    walk_over _ _ _ c.read_at-read.ensures _ (next_is (goal.at.returns-then-next-place c).After-next_place-next) _ c.loop-place.invariant _ c.came.ensures.run
    (search rules)

pub loop-place-smaller : goal.loop-place-smaller
loop-place-smaller c =
    let h =
    moves_inside _ _ _ c.read_at-read.ensures _ (next_is (goal.at.loop-place-smaller c).After-next_place-next) (search rules) in
    omega (arith, c.if-next-place.false)

pub loop-place-preserved : goal.loop-place-preserved
loop-place-preserved c =
    walk_on _ _ _ c.read_at-read.ensures _ (next_is (goal.at.loop-place-preserved c).After-next_place-next) _ c.loop-place.invariant _ c.came.ensures.run
    (search rules)
