-- The numbers by which a record stops a run.
-- Assumes nothing.
use mathlib.Core.Path.{◌≡◌, refl, sym, ap, ◌∙◌, subst}
use mathlib.Core.Bool.{Bool, true, false, cond}
use mathlib.Core.Logic.{◌≢◌, ◌⊎◌, inl, inr}
use mathlib.Core.List.{List}
use Prim.Native.Nat.{ℕ, ◌≤◌}
use native.Mathlib.Omega.{arith}
use lib.ListN.{length}
use borrow.Author.Tests.{eq-eqb}
use Rattle.pilots.specs.definitions.Pilots.{locks}
use Rattle.framing.specs.definitions.Receive.{received_flags}
use Rattle.account.specs.declared.Account.{Account}
use Rattle.account.specs.definitions.Account.{due, tallies_of, total, ahead, late, over, with_frame, with_loss, frame_entered, loss_entered}
use Rattle.capture.specs.definitions.Read.{Read}
use Rattle.capture.specs.definitions.Read.{End, Refused, Order, Frame}
use Rattle.capture.specs.definitions.Capture.{more_than_one, more, read_at, read_one, symbols_at}
use Rattle.capture.proofs.One.{one_numbers, one_is_more}
use Rattle.bench.specs.declared.Run.{Run}
use Rattle.bench.specs.declared.Phase.{Phase}
use Rattle.bench.specs.declared.Phase.TheVariants.{Unordered, Going, Stopped}
use Rattle.bench.specs.definitions.Run.{is_stopped, entry_of, frame_refusal, refusal_of, step_refusal}
use Rattle.demands.specs.statements.Verdict.{StepNumbers}
use Rattle.demands.proofs.Measured.{words_brought}

-- none, or 10 or 11
abbrev OfEntry : ℕ → Type 0
OfEntry n = (n ≡ 0) ⊎ ((10 ≤ n) × (n ≤ 11))

-- none, or 6 to 11, or 22
abbrev Known : ℕ → Type 0
Known n = (n ≡ 0) ⊎ (((6 ≤ n) × (n ≤ 11)) ⊎ (n ≡ more_than_one))

answers : (x y : Bool) → OfEntry (cond x 10 (cond y 11 0))
answers true y = inr (omega arith, omega arith)
answers false true = inr (omega arith, omega arith)
answers false false = inl refl

frame_number_lem : (a : Account) (got : ℕ) (f : List ℕ) → OfEntry (frame_entered a got (tallies_of a got (received_flags f))).refusal
unfolding frame_entered
frame_number_lem a got f =
    rw (eq-eqb (total (tallies_of a got (received_flags f))) (due a got) (words_brought a got f))
    (answers (late (ahead got a.expected)) (over (with_frame a got (tallies_of a got (received_flags f)))))

loss_number : (a : Account) (got : ℕ) → OfEntry (loss_entered a got).refusal
unfolding loss_entered
loss_number a got = answers (late (ahead got a.expected)) (over (with_loss a got))

entry_number : (a : Account) (got : ℕ) (f : List ℕ) → OfEntry (entry_of a got f).refusal
unfolding entry_of
entry_number a got f = go (locks f 0) refl
  where
    go : (l : Bool) → locks f 0 ≡ l → OfEntry (cond (locks f 0) (frame_entered a got (tallies_of a got (received_flags f))) (loss_entered a got)).refusal
    go true e = rw e (frame_number_lem a got f)
    go false e = rw e (loss_number a got)

record_number : (s : List ℕ) (n : ℕ) → read_one s ≡ Refused n → Known n
record_number s n e = go (one_numbers s n e)
  where
    go : ((6 ≤ n) × (n ≤ 9)) ⊎ (n ≡ more_than_one) → Known n
    go (inl b) = inr (inl (b.0, (let l = b.1 in omega arith)))
    go (inr m) = inr (inr m)

number_known : (read : Read) (p : Phase) (run : Run) (s : List ℕ) → read_one s ≡ read → run.phase ≡ p → Known (refusal_of read run s)
unfolding refusal_of frame_refusal is_stopped
number_known End p run s r e = inl refl
number_known (Order start asked allowed next) p run s r e = inl refl
number_known (Refused refusal) Stopped run s r e = rw e (inl refl)
number_known (Refused refusal) Unordered run s r e = rw e (record_number s refusal r)
number_known (Refused refusal) Going run s r e = rw e (record_number s refusal r)
number_known (Frame number from next) Unordered run s r e = rw e (inl refl)
number_known (Frame number from next) Stopped run s r e = rw e (inl refl)
number_known (Frame number from next) Going run s r e =
    subst (λ (p : Phase). Known (frame_refusal p run number (symbols_at s from))) (sym e)
    (known (entry_of run.account number (symbols_at s from)).refusal (entry_number run.account number (symbols_at s from)))
  where
    known : (n : ℕ) → OfEntry n → Known n
    known n (inl z) = inl z
    known n (inr b) = inr (inl ((let l = b.0 in omega arith), b.1))

-- a frame is never refused by 22
not_by_frame : (p : Phase) (run : Run) (got : ℕ) (f : List ℕ) → frame_refusal p run got f ≢ more_than_one
unfolding frame_refusal
not_by_frame Unordered run got f e = omega arith
not_by_frame Stopped run got f e = omega arith
not_by_frame Going run got f e = go (entry_number run.account got f)
  where
    go : OfEntry (entry_of run.account got f).refusal → ⊥
    go (inl z) = omega arith
    go (inr b) = let h = b.1 in omega arith

-- but where more than one record stands
only_more : (read : Read) (run : Run) (s : List ℕ) → read_one s ≡ read → is_stopped run.phase ≡ false → refusal_of read run s ≡ more_than_one
    → more (read_at s 0) (length s) ≡ true
unfolding refusal_of
only_more End run s r h e = absurd (omega arith)
only_more (Order start asked allowed next) run s r h e = absurd (omega arith)
only_more (Refused refusal) run s r h e = one_is_more s (r ∙ ap Refused (ap (λ (b : Bool). cond b 0 refusal) (sym h) ∙ e))
only_more (Frame number from next) run s r h e = absurd (not_by_frame run.phase run number (symbols_at s from) e)

by_more : (run : Run) (s : List ℕ) → is_stopped run.phase ≡ false → more (read_at s 0) (length s) ≡ true → refusal_of (read_one s) run s ≡ more_than_one
unfolding refusal_of read_one
by_more run s h m = rw (m, h) refl

pub step_numbers : StepNumbers
unfolding step_refusal
step_numbers run s = (number_known (read_one s) run.phase run s refl refl, λ h. (only_more (read_one s) run s refl h, by_more run s h))
