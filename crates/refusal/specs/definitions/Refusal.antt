-- The refusal list (01), with what 02 and the house added to it: each refusal's number, and the number that a call answers.
-- Assumes nothing.
use Rattle.std.specs.Prelude.{ℕ, Result, Ok, Err}
use Rattle.refusal.specs.declared.Refusal.{Refusal}
use Rattle.refusal.specs.declared.Refusal.TheVariants as refusal

-- 1 to 12 are 01's, 13 is request 04's (02), 22 and 23 are the house's
abbrev pub number_of : Refusal → ℕ
number_of refusal.Input = 1
number_of refusal.Store = 2
number_of refusal.Output = 3
number_of refusal.Flags = 4
number_of refusal.NoLock = 5
number_of refusal.CutShort = 6
number_of refusal.Length = 7
number_of refusal.Version = 8
number_of refusal.Kind = 9
number_of refusal.Late = 10
number_of refusal.Limit = 11
number_of refusal.Tallies = 12
number_of refusal.ShortRun = 13
number_of refusal.MoreThanOne = 22
number_of refusal.TooMany = 23

-- what a call answers: 0 is done, else the refusal's number (01, refusal list)
abbrev pub answer_of : {A : Type 0} → Result A Refusal → ℕ
answer_of (Ok done) = 0
answer_of (Err refusal) = number_of refusal
