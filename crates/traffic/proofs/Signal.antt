-- The test signal as one sequence of bits, and its states stepped one by one: `Prbs31` and `DirectState`.
-- Assumes nothing.
use mathlib.Core.Path.{◌≡◌, sym, ap, ap₂, ◌∙◌}
use mathlib.Core.Bool.{cond}
use Prim.Native.Nat.{ℕ, zero, suc, ◌+◌, ◌*◌, ◌-◌, ◌/◌, ◌%◌, ◌^◌, ◌≤◌, ◌<◌}
use native.Mathlib.Nat.{zero-add}
use native.Mathlib.Decide.{dec_lt}
use native.Mathlib.Omega.{arith}
use lib.Dec.{ltb, lit<}
use borrow.Author.Tests.{lt-ltb, le-ltb}
use Rattle.bits.specs.definitions.Bits.{value, number, bit_of}
use Rattle.bits.proofs.Value.{value_cong, value_low, bit_number}
use Rattle.traffic.specs.definitions.Register.{entering, next_state, seed, state_from, state_after, sent_bit}
use Rattle.traffic.specs.statements.Register.{Prbs31, DirectState}
use Rattle.traffic.proofs.Register.{entering_lt, from_add}

-- the ones before the signal, and then what enters
unfoldable sequence : ℕ → ℕ
sequence n = cond (ltb n 31) 1 (entering (state_after (n - 31)))

sequence_lt : (n : ℕ) → sequence n < 2
unfolding sequence
sequence_lt n = go (dec_lt n 31)
  where
    go : Dec (n < 31) → sequence n < 2
    go (yes h) = rw (lt-ltb n 31 h) (lit< tt)
    go (no h) = let l : 31 ≤ n = omega arith in rw (le-ltb n 31 l) (entering_lt (state_after (n - 31)))

enters : (n : ℕ) → sequence (n + 31) ≡ entering (state_after n)
unfolding sequence
enters n =
    let l : 31 ≤ n + 31 = omega arith in
    let e : n + 31 - 31 ≡ n = omega arith in
    rw (le-ltb (n + 31) 31 l, e)

-- a state is the 31 bits before the one that enters
states : (n : ℕ) → state_after n ≡ number 31 (λ k. sequence (n + k))
unfolding state_from next_state value sequence
states zero = value_cong 2 31 (λ _. 1) (λ k. sequence (0 + k)) (λ k h. sym (rw (zero-add k, lt-ltb k 31 h)))
states (suc n) =
    let f : ℕ → ℕ = λ k. sequence (n + k) in
    let last : suc n + 30 ≡ n + 31 = omega arith in
    ap₂ (λ (x y : ℕ). x * 2 + y)
    (ap (λ (s : ℕ). s % 2 ^ 30) (states n) ∙ value_low 2 1 30 f (λ i _. sequence_lt (n + i))
    ∙ value_cong 2 30 (λ k. f (1 + k)) (λ k. sequence (suc n + k)) (λ k _. let e : n + (1 + k) ≡ suc n + k = omega arith in ap sequence e))
    (sym (enters n) ∙ ap sequence (sym last))

pub prbs31 : Prbs31
unfolding sent_bit entering bit_of sequence
prbs31 = (
  sequence,
  λ n h. rw (lt-ltb n 31 h),
  λ n.
      let third : n + 31 - 28 ≡ n + 3 = omega arith in
      let first : n + 31 - 31 ≡ n + 0 = omega arith in
      enters n ∙ bits (state_after n / 2 ^ 27) (state_after n / 2 ^ 30)
      ∙ ap₂ (λ (x y : ℕ). (x + y) % 2) (bit n 3 (lit< tt) ∙ ap sequence (sym third)) (bit n 0 (lit< tt) ∙ ap sequence (sym first)),
  states,
  λ n. ap (λ (b : ℕ). 1 - b) (sym (enters n)),
)
  where
    bits : (x y : ℕ) → (x + y) % 2 ≡ (x % 2 + y % 2) % 2
    bits x y = omega arith

    bit : (n i : ℕ) → i < 31 → bit_of 31 (state_after n) i ≡ sequence (n + i)
    bit n i h = ap (λ (s : ℕ). bit_of 31 s i) (states n) ∙ bit_number 31 (λ k. sequence (n + k)) (λ k _. sequence_lt (n + k)) i h

pub direct_state : DirectState
unfolding state_from
direct_state states fresh step n r e = (e ∙ at n, λ m. ap (λ (s : ℕ). state_from s m) e ∙ sym (from_add seed n m) ∙ at (n + m))
  where
    at : (n : ℕ) → state_after n ≡ states n
    at zero = sym fresh
    at (suc n) = ap next_state (at n) ∙ sym (step n)
