-- When an entry is accepted: nothing refuses it. What one that is accepted tells, and that such a one is accepted.
-- Assumes nothing.
use Rattle.std.proofs.Common.{◌≡◌, ℕ, ◌+◌, Bool, true, false, cond, eqb, refl, arith, eq-eqb}
use Rattle.std.proofs.lemmas.Bool.Decides.{nat_tests}
use Rattle.account.specs.definitions.Account.{total, due, no_words, ahead, late, grown, over, with_frame, with_loss, Entry, answer}
use Rattle.account.specs.definitions.Account.{frame_entered, loss_entered}
use Rattle.account.specs.declared.Account.{Account}
use Rattle.account.specs.declared.Tallies.{Tallies}

-- a frame that was entered: in time, within the limits, with the words due, and the account is the one with it
pub record FrameTaken (a : Account) (got : ℕ) (t : Tallies) : Type 0 where
  pub in_time : late (ahead got a.expected) ≡ false
  pub within : over (with_frame a got t) ≡ false
  pub all_due : total t ≡ due a got
  pub taken : (frame_entered a got t).account ≡ with_frame a got t

-- a loss that was entered
pub record LossTaken (a : Account) (got : ℕ) : Type 0 where
  pub in_time : late (ahead got a.expected) ≡ false
  pub within : over (with_loss a got) ≡ false
  pub taken : (loss_entered a got).account ≡ with_loss a got

module _ (a : Account) (got : ℕ) where
  pub frame_taken : (t : Tallies) → (frame_entered a got t).refusal ≡ 0 → FrameTaken a got t
  unfolding frame_entered
  frame_taken t z = grind (arith, nat_tests)

  pub loss_taken : (loss_entered a got).refusal ≡ 0 → LossTaken a got
  unfolding loss_entered
  loss_taken z = grind (arith, nat_tests)

  -- the other way round
  pub frame_done : (t : Tallies) (d : ℕ) → d ≡ ahead got a.expected → late d ≡ false → over (grown a got 1 d t) ≡ false → total t ≡ due a got
      → record { refusal = 0; account = grown a got 1 d t } ≡ frame_entered a got t
  unfolding frame_entered
  frame_done t d e l o w = rw (← e, l, o, eq-eqb (total t) (due a got) w) refl

  -- an entry's answer by the tests that it makes: d frames before it, o whether a limit is passed, r whether the tallies are of the words due
  module _ (k d m : ℕ) (o r : Bool) (n : ℕ) (t : Tallies) (e : Entry)
      (ahead_is : d ≡ ahead got a.expected) (over_is : o ≡ over (grown a a.expected k m t))
      (number_is : n ≡ cond (late d) 10 (cond o 11 (cond r 0 12))) (is : e ≡ answer n (grown a got k m t) a) where
    pub frame_by_tests : (w : ℕ) → k ≡ 1 → m ≡ d → r ≡ eqb (total t) w → w ≡ due a got → e ≡ frame_entered a got t
    unfolding frame_entered over
    frame_by_tests w k_is m_is r_is w_is = rw (is, number_is, over_is, r_is, w_is, m_is, k_is, ahead_is) refl

    pub loss_by_tests : k ≡ 0 → m ≡ d + 1 → r ≡ true → t ≡ no_words → e ≡ loss_entered a got
    unfolding loss_entered over
    loss_by_tests k_is m_is r_is t_is = rw (is, number_is, over_is, r_is, t_is, m_is, k_is, ahead_is) refl
