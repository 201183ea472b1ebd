-- What is left of a run: each record that a run takes uses up some of the limits on accepted and missing frames, so every run comes to its end.
-- Assumes nothing.
use mathlib.Core.Path.{◌≡◌, refl}
use mathlib.Core.Bool.{Bool, true, false, cond}
use mathlib.Core.Logic.{◌≢◌}
use mathlib.Core.List.{List}
use Prim.Native.Nat.{ℕ, ◌+◌, ◌-◌, ◌<◌}
use native.Mathlib.Decide.{ℕ_discrete}
use native.Mathlib.Omega.{arith}
use borrow.Author.Tests.{ne_eqb}
use Rattle.pilots.specs.definitions.Pilots.{locks}
use Rattle.framing.specs.definitions.Receive.{received_flags}
use Rattle.account.specs.declared.Account.{Account}
use Rattle.account.specs.declared.Tallies.{Tallies}
use Rattle.account.specs.definitions.Account.{Entry, frame_limit, tallies_of, frame_entered, loss_entered}
use Rattle.account.proofs.Limits.{under}
use Rattle.account.proofs.AcceptedEntry.{frame_taken, loss_taken}
use Rattle.capture.specs.definitions.Read.{Read, End, Refused, Order, Frame}
use Rattle.capture.specs.definitions.Capture.{read_one, symbols_at}
use Rattle.bench.specs.declared.Run.{Run}
use Rattle.bench.specs.declared.Phase.{Phase}
use Rattle.bench.specs.declared.Phase.TheVariants.{Unordered, Going, Stopped}
use Rattle.bench.specs.definitions.Run.{after_entry, entry_of, order_came, frame_came, halted, came_as, stepped}

-- what the limits leave to an account
abbrev pub room : Account → ℕ
room a = (frame_limit - a.accepted) + (frame_limit - a.missing)

-- what is left of a run: an order, then what the limits leave, then nothing
unfoldable pub remaining : Phase → Account → ℕ
remaining Unordered a = 2 + (frame_limit + frame_limit)
remaining Going a = 1 + room a
remaining Stopped a = 0

abbrev pub remaining_of : Run → ℕ
remaining_of r = remaining r.phase r.account

frame_less : (a : Account) (got : ℕ) (t : Tallies) → (frame_entered a got t).refusal ≡ 0 → room (frame_entered a got t).account < room a
frame_less a got t z = let T = frame_taken a got t z in let u = under _ T.within in rw T.taken (let x = u.0 in let y = u.1 in omega arith)

loss_less : (a : Account) (got : ℕ) → (loss_entered a got).refusal ≡ 0 → room (loss_entered a got).account < room a
loss_less a got z = let T = loss_taken a got z in let u = under _ T.within in rw T.taken (let x = u.0 in let y = u.1 in omega arith)

module _ (r : Run) where
  entry_less : (e : Entry) → (e.refusal ≡ 0 → room e.account < room r.account) → remaining_of (after_entry r e) < 1 + room r.account
  unfolding remaining
  entry_less e h = go (ℕ_discrete e.refusal 0)
    where
      go : Dec (e.refusal ≡ 0) → remaining_of (after_entry r e) < 1 + room r.account
      go (yes z) = rw z (let l = h z in omega arith)
      go (no n) = rw (ne_eqb e.refusal 0 n) (omega arith)

  frame_entry_less : (got : ℕ) (f : List ℕ) → remaining_of (after_entry r (entry_of r.account got f)) < 1 + room r.account
  unfolding entry_of
  frame_entry_less got f = go (locks f 0)
    where
      tallies : Tallies
      tallies = tallies_of r.account got (received_flags f)

      go : (l : Bool) → remaining_of (after_entry r (cond l (frame_entered r.account got tallies) (loss_entered r.account got))) < 1 + room r.account
      go true = entry_less (frame_entered r.account got tallies) (frame_less r.account got tallies)
      go false = entry_less (loss_entered r.account got) (loss_less r.account got)

  halted_less : (p : Phase) → r.phase ≡ p → p ≢ Stopped → remaining_of (halted p r) < remaining p r.account
  unfolding remaining halted
  halted_less Unordered e h = omega arith
  halted_less Going e h = omega arith
  halted_less Stopped e h = absurd (h refl)

  order_less : (p : Phase) → p ≢ Stopped → (start asked allowed : ℕ) → remaining_of (order_came p r start asked allowed) < remaining p r.account
  unfolding remaining order_came
  order_less Unordered h start asked allowed = omega arith
  order_less Going h start asked allowed = omega arith
  order_less Stopped h start asked allowed = absurd (h refl)

  came_less : (p : Phase) → p ≢ Stopped → (got : ℕ) (f : List ℕ) → remaining_of (frame_came p r got f) < remaining p r.account
  unfolding remaining frame_came
  came_less Unordered h got f = omega arith
  came_less Going h got f = frame_entry_less got f
  came_less Stopped h got f = absurd (h refl)

  -- a record leaves less of a run that is not stopped
  pub step_less : (s : List ℕ) → read_one s ≢ End → r.phase ≢ Stopped → remaining_of (stepped r s) < remaining_of r
  unfolding stepped came_as
  step_less s e h = go (read_one s) refl
    where
      go : (x : Read) → read_one s ≡ x → remaining_of (came_as x r s) < remaining_of r
      go End q = absurd (e q)
      go (Refused refusal) q = halted_less r.phase refl h
      go (Order start asked allowed next) q = order_less r.phase h start asked allowed
      go (Frame number from next) q = came_less r.phase h number (symbols_at s from)
