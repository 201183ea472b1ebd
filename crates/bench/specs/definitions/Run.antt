-- The run of a capture: each record's effect (01, account and verdict).
-- Assumes nothing.
use Rattle.std.specs.Prelude.{Bool, true, false, cond, not, List, ℕ, eqb}
use Rattle.pilots.specs.definitions.Pilots.{locks}
use Rattle.framing.specs.definitions.Receive.{received_flags}
use Rattle.account.specs.declared.Account.{Account}
use Rattle.account.specs.declared.Verdict.{Verdict}
use Rattle.account.specs.definitions.Account.{Entry, tallies_of, opened, frame_entered, loss_entered, verdict}
use Rattle.capture.specs.definitions.Read.{Read, End, Refused, Order, Frame}
use Rattle.capture.specs.definitions.Capture.{read_one, symbols_at}
use Rattle.bench.specs.declared.Run.{Run}
use Rattle.bench.specs.declared.Phase.{Phase}
use Rattle.bench.specs.declared.Phase.TheVariants.{Unordered, Going, Stopped}

-- the run before its first record: no order, and every number is 0
abbrev pub begun : Run
begun = record { phase = Unordered; asked = 0; allowed = 0; account = opened 0 }

-- stopped: everything else stays
abbrev pub stopped : Run → Run
stopped r = record { phase = Stopped; asked = r.asked; allowed = r.allowed; account = r.account }

-- going on with another account
abbrev pub going : Run → Account → Run
going r a = record { phase = Going; asked = r.asked; allowed = r.allowed; account = a }

-- an entry's effect on the run: a refused one stops it
abbrev pub after_entry : Run → Entry → Run
after_entry r e = cond (eqb e.refusal 0) (going r e.account) (stopped r)

-- one frame's entry: with the tallies of its flags, or, without lock, as a loss
unfoldable pub entry_of : Account → ℕ → List ℕ → Entry
entry_of a got f = cond (locks f 0) (frame_entered a got (tallies_of a got (received_flags f))) (loss_entered a got)

-- one frame's effect on the run
abbrev pub framed : Run → ℕ → List ℕ → Run
framed r got f = after_entry r (entry_of r.account got f)

-- an order: the first is taken, with a new account; a second one stops the run
unfoldable pub order_came : Phase → Run → (start asked allowed : ℕ) → Run
order_came Unordered r start asked allowed = record { phase = Going; asked = asked; allowed = allowed; account = opened start }
order_came Going r start asked allowed = stopped r
order_came Stopped r start asked allowed = r

-- a frame: entered; before any order it stops the run
unfoldable pub frame_came : Phase → Run → ℕ → List ℕ → Run
frame_came Unordered r got f = stopped r
frame_came Going r got f = framed r got f
frame_came Stopped r got f = r

-- a refused record stops the run
unfoldable pub halted : Phase → Run → Run
halted Unordered r = stopped r
halted Going r = stopped r
halted Stopped r = r

-- what was read in the bytes s, and what it changes
unfoldable pub came_as : Read → Run → List ℕ → Run
came_as End r s = r
came_as (Refused refusal) r s = halted r.phase r
came_as (Order start asked allowed next) r s = order_came r.phase r start asked allowed
came_as (Frame number from next) r s = frame_came r.phase r number (symbols_at s from)

-- a step of the run: one record's bytes alone
unfoldable pub stepped : Run → List ℕ → Run
stepped r s = came_as (read_one s) r s

-- the run is stopped
unfoldable pub is_stopped : Phase → Bool
is_stopped Unordered = false
is_stopped Going = false
is_stopped Stopped = true

-- by which refusal a frame stops the run: its entry's; before any order, and once the run is stopped, by none
unfoldable pub frame_refusal : Phase → Run → ℕ → List ℕ → ℕ
frame_refusal Unordered r got f = 0
frame_refusal Going r got f = (entry_of r.account got f).refusal
frame_refusal Stopped r got f = 0

-- by which refusal what was read stops the run: 6 to 9, and 22 in a step, the record's own; 10 and 11 its entry's, of which 12 never comes; 0 by none. A
-- second order and a frame before any order have no number
unfoldable pub refusal_of : Read → Run → List ℕ → ℕ
refusal_of End r s = 0
refusal_of (Refused refusal) r s = cond (is_stopped r.phase) 0 refusal
refusal_of (Order start asked allowed next) r s = 0
refusal_of (Frame number from next) r s = frame_refusal r.phase r number (symbols_at s from)

-- a step's refusal
unfoldable pub step_refusal : Run → List ℕ → ℕ
step_refusal r s = refusal_of (read_one s) r s

-- a second order, or a frame before any
unfoldable pub unnumbered : Phase → Read → Bool
unnumbered Unordered End = false
unnumbered Unordered (Refused refusal) = false
unnumbered Unordered (Order start asked allowed next) = false
unnumbered Unordered (Frame number from next) = true
unnumbered Going End = false
unnumbered Going (Refused refusal) = false
unnumbered Going (Order start asked allowed next) = true
unnumbered Going (Frame number from next) = false
unnumbered Stopped read = false

-- an order came, and nothing has stopped the run since
unfoldable pub goes_on : Phase → Bool
goes_on Unordered = false
goes_on Going = true
goes_on Stopped = false

-- the verdict of a run: without an order, or stopped, it is not measured
unfoldable pub verdict_of : Run → Verdict
verdict_of r = verdict r.asked r.allowed r.account (not (goes_on r.phase))
