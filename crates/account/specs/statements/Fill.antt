-- Fill is no measurement (02, request 02): what a frame adds, by its number, and that an order for one frame is never measured; `proofs/Kept` proves
-- `AddsDue`, `proofs/Fill` the others.
-- Assumes nothing.
use Rattle.std.specs.Prelude.{◌≡◌, ℕ, ◌+◌, ◌%◌, ◌^◌, ◌<◌, ◌≤◌, Bool, true, false, ◌≢◌, ◌↔◌, List, nat_le, slice_index}
use Rattle.account.specs.definitions.Account.{due, tallied, tallies_of, total, frame_entered, loss_entered, verdict}
use Rattle.account.specs.declared.Account.{Account}
use Rattle.account.specs.declared.Tallies.{Tallies}
use Rattle.account.specs.declared.Verdict.TheVariants.{NotMeasured}

-- to the frame at the start number no words are due, to the next number, round 2^32, 320: not its words 0 and 1, flag places 0 to 63; to every other 384
abbrev pub DueByNumber : Type 0
DueByNumber =
    (a : Account) (got : ℕ) → a.start < 2 ^ 32 → got < 2 ^ 32
    → (got ≡ a.start → (due a got ≡ 0) × ((place : ℕ) → tallied a got place ≡ false))
    × (got ≡ (a.start + 1) % 2 ^ 32 → (due a got ≡ 320) × ((place : ℕ) → tallied a got place ≡ nat_le 64 place))
    × (got ≢ a.start → got ≢ (a.start + 1) % 2 ^ 32 → (due a got ≡ 384) × ((place : ℕ) → tallied a got place ≡ true))

-- a frame that is accepted adds the words that are due to it, a loss none; and whatever is entered, the account keeps its start number
abbrev pub AddsDue : Type 0
AddsDue =
    (a : Account) (got : ℕ)
    → ((t : Tallies)
    → ((frame_entered a got t).refusal ≡ 0 → total (frame_entered a got t).account.words ≡ total a.words + due a got)
    × ((frame_entered a got t).account.start ≡ a.start))
    × ((loss_entered a got).account.words ≡ a.words) × ((loss_entered a got).account.start ≡ a.start)

-- flag bytes bring the words that are due exactly if those that are tallied say 0, 1, 2 or 3; the others are not looked at
abbrev pub Brings : Type 0
Brings =
    (a : Account) (got : ℕ) (flags : List ℕ)
    → (total (tallies_of a got flags) ≡ due a got) ↔ ((place : ℕ) → place < 384 → tallied a got place ≡ true → slice_index flags place ≤ 3)

-- an order for one frame, or for none, is not measured, whatever the numbers
abbrev pub FewerThanTwo : Type 0
FewerThanTwo = (asked allowed : ℕ) (a : Account) (stopped : Bool) → asked < 2 → verdict asked allowed a stopped ≡ NotMeasured
