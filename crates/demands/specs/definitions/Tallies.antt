-- What becomes of each frame in the account, call by call, and the capture of a trial, for the program (demand 3).
-- Assumes nothing.
use Rattle.std.specs.Prelude.{cond, List, ◌++◌, ℕ, zero, suc, eqb}
use Rattle.lanes.specs.definitions.Permutation.{Places}
use Rattle.account.specs.declared.Account.{Account}
use Rattle.account.specs.definitions.Account.{Entry}
use Rattle.account.specs.definitions.Account.{tallies_of, frame_entered, loss_entered}
use Rattle.capture.specs.definitions.Capture.{order_record, frame_records}
use Rattle.demands.specs.definitions.Trial.{hit, Trial}

-- what becomes of the frame numbered got, whose call answered a number and left flag bytes: entered with its tallies; without lock, entered as a loss; any
-- other refusal enters nothing
unfoldable pub reported : Account → ℕ → ℕ → List ℕ → Entry
reported a got number flags =
    cond (eqb number 0) (frame_entered a got (tallies_of a got flags)) (cond (eqb number 5) (loss_entered a got) (record { refusal = number; account = a }))

-- the account before call f, from the account start on
unfoldable pub account_at : Account → (got numbers : ℕ → ℕ) → (flag_bytes : ℕ → List ℕ) → ℕ → Account
account_at start got numbers flag_bytes zero = start
account_at start got numbers flag_bytes (suc f) = (reported (account_at start got numbers flag_bytes f) (got f) (numbers f) (flag_bytes f)).account

-- a trial as a capture: an order, the frames as they were hit, with these numbers, and whatever stands behind them
abbrev pub captured : {ex : Places} {n : ℕ} {flips lanes room outs flag_buffers : ℕ → List ℕ} → (start asked allowed : ℕ) → (got : ℕ → ℕ)
    → Trial ex n flips lanes room outs flag_buffers → (rest : List ℕ) → List ℕ
captured {n = n} {flips = flips} start asked allowed got t rest =
    order_record start asked allowed ++ (frame_records got (λ f. hit (t.frames f) (flips f)) n ++ rest)
