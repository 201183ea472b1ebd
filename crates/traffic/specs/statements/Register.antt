-- What the test signal is, and that a state found directly is the stepped one (02, request 01); `proofs/Signal` proves both.
-- Assumes nothing.
use Rattle.std.specs.Prelude.{◌≡◌, ℕ, suc, ◌+◌, ◌-◌, ◌%◌, ◌<◌}
use Rattle.bits.specs.definitions.Bits.{number}
use Rattle.traffic.specs.definitions.Register.{next_state, seed, state_from, state_after, traffic_bit}

-- PRBS31: one sequence of bits, of which the first 31 stand before the signal and are ones, and each later one is the exclusive or of those 28 and 31 places
-- before it. The state after n bits is the 31 bits before bit n + 31, the youngest lowest, and that bit goes out inverted
abbrev pub Prbs31 : Type 0
Prbs31 =
    (b : ℕ → ℕ) × ((n : ℕ) → n < 31 → b n ≡ 1) × ((n : ℕ) → b (n + 31) ≡ (b (n + 31 - 28) + b (n + 31 - 31)) % 2)
    × ((n : ℕ) → state_after n ≡ number 31 (λ k. b (n + k))) × ((n : ℕ) → traffic_bit n ≡ 1 - b (n + 31))

-- what is answered for the state after n bits, as `state_after` promises it, is the state that is reached by stepping from all ones, for every number of bits;
-- and from there it goes on
abbrev pub DirectState : Type 0
DirectState =
    (states : ℕ → ℕ) → states 0 ≡ seed → ((k : ℕ) → states (suc k) ≡ next_state (states k)) → (n r : ℕ) → r ≡ state_after n
    → (r ≡ states n) × ((m : ℕ) → state_from r m ≡ states (n + m))
