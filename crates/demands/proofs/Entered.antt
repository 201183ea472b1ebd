-- One frame, from what a call of receiving with the right lengths answered: the entry that then follows is the frame's entry in a run.
-- Assumes nothing.
use mathlib.Core.Path.{◌≡◌, refl, sym, ap, ◌∙◌}
use mathlib.Core.Bool.{Bool, true, false, cond}
use mathlib.Core.Logic.{◌⊎◌, inl, inr}
use mathlib.Core.List.{List}
use Prim.Native.Nat.{ℕ}
use native.Mathlib.Omega.{arith}
use lib.ListN.{length}
use borrow.Author.Tests.{eq-eqb}
use Rattle.pilots.specs.definitions.Pilots.{locks}
use Rattle.framing.specs.definitions.Places.{base}
use Rattle.framing.specs.definitions.Receive.{received_flags, Receives}
use Rattle.framing.proofs.Receiving.{all_lengths, done, flags_length}
use Rattle.account.specs.declared.Account.{Account}
use Rattle.account.specs.definitions.Account.{tallies_of, frame_entered, loss_entered}
use Rattle.bench.specs.definitions.Run.{entry_of}
use Rattle.adderbloom.specs.definitions.Entry.{flags_entered}
use Rattle.demands.specs.definitions.Tallies.{reported}
use Rattle.demands.specs.statements.Tallies.{ReportedIsEntered}

module _ (f s o g : List ℕ) (number : ℕ) (s' o' g' : List ℕ) (R : Receives base f s o g number s' o' g') (hf : length f ≡ 6144)
    (lent : (length s ≡ 2880) × (length o ≡ 5280) × (length g ≡ 384)) (a : Account) (got : ℕ) where
  by_lock : number ≡ cond (locks f 0) 0 5
  by_lock = R.number ∙ all_lengths f s o g hf lent.0 lent.1 lent.2

  pub known : (number ≡ 0) ⊎ (number ≡ 5)
  known = go (locks f 0) by_lock
    where
      go : (b : Bool) → number ≡ cond b 0 5 → (number ≡ 0) ⊎ (number ≡ 5)
      go true e = inl e
      go false e = inr e

  flags_are : number ≡ 0 → g' ≡ received_flags f
  flags_are z = (done base f s o g number s' o' g' z R).2

  received : number ≡ 0 → entry_of a got f ≡ frame_entered a got (tallies_of a got g')
  unfolding entry_of
  received z = rw (locked (locks f 0) by_lock, flags_are z) refl
    where
      locked : (b : Bool) → number ≡ cond b 0 5 → b ≡ true
      locked true e = refl
      locked false e = absurd (omega arith)

  pub entered : number ≡ 0 → entry_of a got f ≡ flags_entered a got g'
  unfolding flags_entered
  entered z = rw (eq-eqb _ _ (ap length (flags_are z) ∙ flags_length f)) (received z)

  pub lost : number ≡ 5 → entry_of a got f ≡ loss_entered a got
  unfolding entry_of
  lost z = rw (unlocked (locks f 0) by_lock) refl
    where
      unlocked : (b : Bool) → number ≡ cond b 0 5 → b ≡ false
      unlocked true e = absurd (omega arith)
      unlocked false e = refl

pub reported_is_entered : ReportedIsEntered
unfolding reported
reported_is_entered f s o g number s' o' g' R hf lent a got = go (known f s o g number s' o' g' R hf lent a got)
  where
    go : (number ≡ 0) ⊎ (number ≡ 5) → reported a got number g' ≡ entry_of a got f
    go (inl z) = rw z (sym (received f s o g number s' o' g' R hf lent a got z))
    go (inr z) = rw z (sym (lost f s o g number s' o' g' R hf lent a got z))
