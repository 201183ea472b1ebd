-- What holds of an account from a new order on, as statements (01, account and verdict); `proofs/Kept` proves each.
-- Assumes nothing.
use Rattle.std.specs.Prelude.{◌≡◌, ℕ, ◌^◌, ◌<◌, Bool, ◌≢◌}
use Rattle.account.specs.definitions.Account.{frame_entered, loss_entered}
use Rattle.account.specs.declared.Account.{Account}
use Rattle.account.specs.declared.Tallies.{Tallies}
use Rattle.account.specs.definitions.Kept.{Follows, account_after}

-- from a new order on, whatever is entered and whatever of it is refused
abbrev pub KeptFromOrder : Type 0
KeptFromOrder =
    (start : ℕ) (got : ℕ → ℕ) (lost : ℕ → Bool) (tallies : ℕ → Tallies) → start < 2 ^ 32 → ((f : ℕ) → got f < 2 ^ 32)
    → (f : ℕ) → Follows start (account_after start got lost tallies f)

-- a refused entry leaves the account as it was
abbrev pub RefusedKeeps : Type 0
RefusedKeeps =
    (a : Account) (got : ℕ)
    → ((t : Tallies) → (frame_entered a got t).refusal ≢ 0 → (frame_entered a got t).account ≡ a)
    × ((loss_entered a got).refusal ≢ 0 → (loss_entered a got).account ≡ a)
