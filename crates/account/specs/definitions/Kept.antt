-- An account after some entries, and what it is to follow on from an order (01, account and verdict).
-- Assumes nothing.
use Rattle.std.specs.Prelude.{◌≡◌, ℕ, zero, suc, ◌+◌, ◌*◌, ◌%◌, ◌^◌, ◌≤◌, Bool, false, cond, ◌⊎◌}
use Rattle.account.specs.definitions.Account.{total, opened, over, frame_entered, loss_entered}
use Rattle.account.specs.declared.Account.{Account}
use Rattle.account.specs.declared.Tallies.{Tallies}

-- what the four tallies total: where none is missing and at least two frames are accepted, 384 times the accepted frames less 448; one alone brings no words;
-- and whatever is missing, it is that product less 0, 64, 384 or 448; which, the entries tell: `AddsDue` (02, request 02)
pub record Totals (a : Account) : Type 0 where
  pub exactly : a.missing ≡ 0 → 2 ≤ a.accepted → total a.words + 448 ≡ 384 * a.accepted
  pub alone : a.missing ≡ 0 → a.accepted ≤ 1 → total a.words ≡ 0
  pub lacking : (x : ℕ) × (total a.words + x ≡ 384 * a.accepted) × ((x ≡ 0) ⊎ (x ≡ 64) ⊎ (x ≡ 384) ⊎ (x ≡ 448))

-- the account follows on from the order's start: it keeps that number, its tallies total what `Totals` says, the next number is as many after start as frames
-- are accepted or missing, round 2^32, and no limit is passed
pub record Follows (start : ℕ) (a : Account) : Type 0 where
  pub starts : a.start ≡ start
  pub totals : Totals a
  pub numbers : a.expected ≡ (start + a.accepted + a.missing) % 2 ^ 32
  pub within : over a ≡ false

-- the account after f entries of a new order: each a frame with its tallies, or a loss
unfoldable pub account_after : ℕ → (got : ℕ → ℕ) (lost : ℕ → Bool) (tallies : ℕ → Tallies) → ℕ → Account
account_after start got lost tallies zero = opened start
account_after start got lost tallies (suc f) =
    (cond (lost f) (loss_entered (account_after start got lost tallies f) (got f))
    (frame_entered (account_after start got lost tallies f) (got f) (tallies f))).account
