-- What the tallies of an account total, entry by entry: no frame comes in the turn of another, so the two that bring fewer than 384 words come once at most.
-- Assumes nothing.
use Rattle.std.proofs.Common.{◌≡◌, ℕ, ◌+◌, ◌-◌, ◌%◌, ◌^◌, ◌≤◌, false, sym, refl, ap, ◌∙◌, inl, inr, arith}
use native.Mathlib.Decide.{ℕ_discrete}
use Rattle.account.specs.definitions.Account.{total, due, opened, ahead, over, with_frame, frame_entered, loss_entered}
use Rattle.account.specs.definitions.Kept.{Totals}
use Rattle.account.specs.declared.Account.{Account}
use Rattle.account.specs.declared.Tallies.{Tallies}
use Rattle.account.proofs.Limits.{under}
use Rattle.account.proofs.AcceptedEntry.{frame_taken, loss_taken}
use Rattle.account.proofs.Fill.{at_start, at_next, at_later}

-- what holds from a new order on. A number lies as far after the start number as frames are accepted or missing, and then after the expected one
pub record InTurn (a : Account) : Type 0 where
  pub turn : (got : ℕ) → ahead got a.start ≡ (a.accepted + a.missing + ahead got a.expected) % 2 ^ 32
  pub none_yet : a.accepted + a.missing ≤ 1 → total a.words ≡ 0
  pub totals : Totals a
  pub within : over a ≡ false

pub opened_in_turn : (start : ℕ) → InTurn (opened start)
unfolding ahead over
opened_in_turn start =
    record {
      turn = λ got. omega arith;
      none_yet = λ _. refl;
      totals = record { exactly = λ _ h. absurd (omega arith); alone = λ _ _. refl; lacking = (0, refl, inl refl) };
      within = refl;
    }

-- the next turn, d after the one that was expected
next_turn : (start n d got entered : ℕ) → ahead entered start ≡ (n + d) % 2 ^ 32
    → ahead got start ≡ (n + 1 + d + ahead got ((entered + 1) % 2 ^ 32)) % 2 ^ 32
unfolding ahead
next_turn start n d got entered e =
    let c = 2 ^ 32 - start in
    let y = got + (2 ^ 32 - (entered + 1) % 2 ^ 32) in
    sym (once_round (got + c) entered)
    ∙ ap (λ (x : ℕ). x % 2 ^ 32) (let z : got + c + (entered + 1 + (2 ^ 32 - (entered + 1) % 2 ^ 32)) ≡ entered + c + 1 + y = omega arith in z)
    ∙ sym (sum_of_two (entered + c) y) ∙ ap (λ (x : ℕ). (x + 1 + y % 2 ^ 32) % 2 ^ 32) e ∙ sum_of_two (n + d) y
    ∙ sym (rest y)
  where
    once_round : (x y : ℕ) → (x + (y + 1 + (2 ^ 32 - (y + 1) % 2 ^ 32))) % 2 ^ 32 ≡ x % 2 ^ 32
    once_round x y = omega arith

    sum_of_two : (x y : ℕ) → (x % 2 ^ 32 + 1 + y % 2 ^ 32) % 2 ^ 32 ≡ (x + 1 + y) % 2 ^ 32
    sum_of_two x y = omega arith

    rest : (y : ℕ) → (n + 1 + d + y % 2 ^ 32) % 2 ^ 32 ≡ (n + d + 1 + y) % 2 ^ 32
    rest y = omega arith

module _ (a : Account) (got : ℕ) (I : InTurn a) where
  turn_after : (k m : ℕ) → k + m ≡ 1 + ahead got a.expected → (other : ℕ)
      → ahead other a.start ≡ (a.accepted + k + (a.missing + m) + ahead other ((got + 1) % 2 ^ 32)) % 2 ^ 32
  turn_after k m e other =
      let n = next_turn a.start (a.accepted + a.missing) (ahead got a.expected) other got (I.turn got) in omega arith

  -- a frame by its turn: the first brings no words, the second 320, a later one 384
  frame_totals : (t : Tallies) → over (with_frame a got t) ≡ false → total t ≡ due a got
      → (a.accepted + 1 + (a.missing + ahead got a.expected) ≤ 1 → total (with_frame a got t).words ≡ 0) × Totals (with_frame a got t)
  frame_totals t w e = go (ℕ_discrete (ahead got a.start) 0) (ℕ_discrete (ahead got a.start) 1) (ℕ_discrete a.accepted 0)
    where
      is : ahead got a.start ≡ a.accepted + a.missing + ahead got a.expected
      is = let u = under _ w in let v = u.0 in let x = u.1 in let z = I.turn got in omega arith

      go : Dec (ahead got a.start ≡ 0) → Dec (ahead got a.start ≡ 1) → Dec (a.accepted ≡ 0)
          → (a.accepted + 1 + (a.missing + ahead got a.expected) ≤ 1 → total (with_frame a got t).words ≡ 0) × Totals (with_frame a got t)
      go (yes z) o f =
          let i = is in
          let none = I.none_yet (omega arith) in
          let brought : total t ≡ 0 = e ∙ at_start a got 0 320 384 z in (
            λ _. omega arith,
            record { exactly = λ m h. absurd (omega arith); alone = λ _ _. omega arith; lacking = (384, omega arith, inr (inr (inl refl))) },
          )
      go (no z) (yes o) (yes f) =
          let i = is in
          let none = I.none_yet (omega arith) in
          let brought : total t ≡ 320 = e ∙ at_next a got 0 320 384 o in (
            λ h. absurd (omega arith),
            record { exactly = λ m h. absurd (omega arith); alone = λ m h. absurd (omega arith); lacking = (64, omega arith, inr (inl refl)) },
          )
      go (no z) (yes o) (no f) =
          let i = is in
          let none = I.none_yet (omega arith) in
          let brought : total t ≡ 320 = e ∙ at_next a got 0 320 384 o in (
            λ h. absurd (omega arith),
            record { exactly = λ m h. omega arith; alone = λ m h. absurd (omega arith); lacking = (448, omega arith, inr (inr (inr refl))) },
          )
      go (no z) (no o) f =
          let i = is in
          let brought : total t ≡ 384 = e ∙ at_later a got 0 320 384 (omega arith) in
          let (x, s, c) = I.totals.lacking in (
            λ h. absurd (omega arith),
            record {
              exactly = λ m h. let y = I.totals.exactly (omega arith) (omega arith) in omega arith;
              alone = λ m h. absurd (omega arith);
              lacking = (x, omega arith, c);
            },
          )

  pub frame_in_turn : (t : Tallies) → (frame_entered a got t).refusal ≡ 0 → InTurn (frame_entered a got t).account
  frame_in_turn t z =
      let T = frame_taken a got t z in
      let F = frame_totals t T.within T.all_due in
      rw T.taken (record { turn = turn_after 1 (ahead got a.expected) refl; none_yet = F.0; totals = F.1; within = T.within })

  pub loss_in_turn : (loss_entered a got).refusal ≡ 0 → InTurn (loss_entered a got).account
  loss_in_turn z =
      let T = loss_taken a got z in
      let (x, s, c) = I.totals.lacking in
      rw T.taken
      (record {
        turn = turn_after 0 (ahead got a.expected + 1) (omega arith);
        none_yet = λ h. let n = I.none_yet (omega arith) in omega arith;
        totals = record { exactly = λ y h. absurd (omega arith); alone = λ y h. absurd (omega arith); lacking = (x, omega arith, c) };
        within = T.within;
      })
