-- The numbers tell refusals apart from one another, and from a call that was done.
-- Assumes nothing.
use mathlib.Core.Path.{◌≡◌, refl, sym, ap, ◌∙◌}
use native.Mathlib.Omega.{arith}
use mathlib.Core.Bool.{true, false, false≢true}
use Rattle.std.specs.Result.{is_err}
use Rattle.std.proofs.Common.{ℕ, ◌<◌, nat_eq, Result, Ok, Err, if◌then◌else◌}
use Rattle.refusal.specs.declared.Refusal.{Refusal}
use Rattle.refusal.specs.declared.Refusal.TheVariants as refusal
use Rattle.refusal.specs.definitions.Refusal.{number_of, answer_of}

-- the answer of which this is the number
answer_by : ℕ → Result Unit Refusal
answer_by n =
    if nat_eq n 0 then Ok tt else
    if nat_eq n 1 then Err refusal.Input else
    if nat_eq n 2 then Err refusal.Store else
    if nat_eq n 3 then Err refusal.Output else
    if nat_eq n 4 then Err refusal.Flags else
    if nat_eq n 5 then Err refusal.NoLock else
    if nat_eq n 6 then Err refusal.CutShort else
    if nat_eq n 7 then Err refusal.Length else
    if nat_eq n 8 then Err refusal.Version else
    if nat_eq n 9 then Err refusal.Kind else
    if nat_eq n 10 then Err refusal.Late else
    if nat_eq n 11 then Err refusal.Limit else
    if nat_eq n 12 then Err refusal.Tallies else
    if nat_eq n 13 then Err refusal.ShortRun else
    if nat_eq n 22 then Err refusal.MoreThanOne else
    Err refusal.TooMany

by_number : (answer : Result Unit Refusal) → answer_by (answer_of answer) ≡ answer
unfolding answer_by
by_number (Ok x) = refl
by_number (Err refusal.Input) = refl
by_number (Err refusal.Store) = refl
by_number (Err refusal.Output) = refl
by_number (Err refusal.Flags) = refl
by_number (Err refusal.NoLock) = refl
by_number (Err refusal.CutShort) = refl
by_number (Err refusal.Length) = refl
by_number (Err refusal.Version) = refl
by_number (Err refusal.Kind) = refl
by_number (Err refusal.Late) = refl
by_number (Err refusal.Limit) = refl
by_number (Err refusal.Tallies) = refl
by_number (Err refusal.ShortRun) = refl
by_number (Err refusal.MoreThanOne) = refl
by_number (Err refusal.TooMany) = refl

-- answers of one number are one answer
pub answer_injective : {a b : Result Unit Refusal} → answer_of a ≡ answer_of b → a ≡ b
answer_injective {a} {b} e = sym (by_number a) ∙ ap answer_by e ∙ by_number b

-- no refusal has the number of a call that was done
pub positive : (refusal : Refusal) → 0 < number_of refusal
positive refusal.Input = omega arith
positive refusal.Store = omega arith
positive refusal.Output = omega arith
positive refusal.Flags = omega arith
positive refusal.NoLock = omega arith
positive refusal.CutShort = omega arith
positive refusal.Length = omega arith
positive refusal.Version = omega arith
positive refusal.Kind = omega arith
positive refusal.Late = omega arith
positive refusal.Limit = omega arith
positive refusal.Tallies = omega arith
positive refusal.ShortRun = omega arith
positive refusal.MoreThanOne = omega arith
positive refusal.TooMany = omega arith

-- what is no refusal was done, and what is one was not
pub done : (answer : Result Unit Refusal) → is_err answer ≡ false → answer_of answer ≡ 0
done (Ok x) e = refl
done (Err refusal) e = absurd (false≢true (sym e))

pub not_done : (answer : Result Unit Refusal) → is_err answer ≡ true → 0 < answer_of answer
not_done (Ok x) e = absurd (false≢true e)
not_done (Err refusal) e = positive refusal
