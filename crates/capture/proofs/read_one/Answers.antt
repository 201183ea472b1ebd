-- `capture::read_one` meets its contract: more stands behind a record, or nothing does. Assumes nothing.
use Rattle.std.proofs.Common.{◌≡◌, sym, ap, ◌∙◌, arith}
use Rattle.capture.specs.definitions.Read.{Read}
use Rattle.capture.specs.definitions.Capture.{read_at, next_of}
use Rattle.capture.proofs.Determined.{standing_read}
use Rattle.capture.proofs.One.{one_more}
use Rattle.capture.proofs.read_one.Goals.{After-next_place-next}
use Rattle.capture.proofs.read_one.Goals as goal

-- the place behind what stands at the beginning
next_is : (c : After-next_place-next) → c.next_place-next.result ≡ next_of (read_at c.args.piece.now 0) 0
next_is c = c.next_place-next.ensures ∙ standing_read c.read_at-read.result 0 ∙ ap (λ (r : Read). next_of r 0) c.read_at-read.ensures

pub returns-then-next-piece : goal.returns-then-next-piece
returns-then-next-piece c =
    let e = next_is (goal.at.returns-then-next-piece c).After-next_place-next in
    sym (one_more c.args.piece.now (omega arith) (omega arith))
