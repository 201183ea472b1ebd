-- A frame's entry, from what receiving its words and the account answered.
-- Assumes nothing.
use mathlib.Core.Path.{◌≡◌, sym, ◌∙◌}
use mathlib.Core.Bool.{cond}
use mathlib.Core.List.{List}
use Prim.Native.Nat.{ℕ}
use native.Mathlib.Omega.{arith}
use lib.ListN.{length}
use Rattle.pilots.specs.definitions.Pilots.{locks}
use Rattle.framing.specs.definitions.Receive.{received_flags, ReceivesWords}
use Rattle.bits.proofs.Calls.{written}
use Rattle.framing.proofs.Receiving.{words_lock}
use Rattle.account.specs.declared.Account.{Account}
use Rattle.account.specs.declared.Tallies.{Tallies}
use Rattle.account.specs.definitions.Account.{Entry, tallies_of, frame_entered, loss_entered}
use Rattle.account.proofs.Kept.{refused_keeps}
use Rattle.refusal.specs.declared.Refusal.{Refusal}
use Rattle.refusal.specs.definitions.Refusal.{number_of}
use Rattle.refusal.proofs.Numbers.{answer_injective}
use Rattle.std.proofs.Common.{◌≢◌, Result, Ok, Err}
use Rattle.bench.specs.definitions.Run.{entry_of}

module _ (a : Account) (got : ℕ) {f w g : List ℕ} {number : ℕ} {w' g' : List ℕ} (R : ReceivesWords f w g number w' g') (whole : length f ≡ 6144) where
  lock : number ≡ cond (locks f 0) 0 5
  lock = R.number ∙ words_lock f whole

  pub lost : (number ≡ 0 → ⊥) → (e : Entry) → e ≡ loss_entered a got → e ≡ entry_of a got f
  unfolding entry_of
  lost n e is = let l = lock in grind arith

  pub entered : number ≡ 0 → (t : Tallies) → t ≡ tallies_of a got g' → (e : Entry) → e ≡ frame_entered a got t → e ≡ entry_of a got f
  unfolding entry_of
  entered z t tallies e is =
      let flags : g' ≡ received_flags f = R.flags ∙ written _ _ g (sym R.number ∙ z) in
      let l = lock in grind arith

-- a refused entry leaves the account as it was
pub entry_kept : (a : Account) (got : ℕ) (f : List ℕ) → (entry_of a got f).refusal ≢ 0 → (entry_of a got f).account ≡ a
unfolding entry_of
entry_kept a got f n = grind (arith, (refused_keeps a got).0 (tallies_of a got (received_flags f)), (refused_keeps a got).1)

-- and has a number
pub refusal_some : (e : Refusal) → number_of e ≡ 0 → ⊥
refusal_some e z = let same : ◌≡◌ {A = Result Unit Refusal} (Err e) (Ok tt) = answer_injective z in cc
