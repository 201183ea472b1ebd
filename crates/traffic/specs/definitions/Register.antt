-- The register of PRBS31 (02, request 01, and IEEE 802.3, 49.2.8; 003, table 24, prints polynomial and start): x^31 + x^28 + 1. A state is the 31 bits that
-- entered last, the youngest lowest; what stands above them is not looked at.
-- Assumes nothing.
use Rattle.std.specs.Prelude.{ℕ, zero, suc, ◌+◌, ◌*◌, ◌-◌, ◌/◌, ◌%◌, ◌^◌}

-- the bit that enters: the exclusive or of those 28 and 31 places before it
unfoldable pub entering : ℕ → ℕ
entering s = (s / 2 ^ 27 + s / 2 ^ 30) % 2

-- the state one bit later: every bit is a place older, and the oldest has left
unfoldable pub next_state : ℕ → ℕ
next_state s = s % 2 ^ 30 * 2 + entering s

-- the state n bits after the state s
unfoldable pub state_from : ℕ → ℕ → ℕ
state_from s zero = s
state_from s (suc n) = next_state (state_from s n)

-- the state before the first bit: all ones
abbrev pub seed : ℕ
seed = 2 ^ 31 - 1

-- the state after n bits
abbrev pub state_after : ℕ → ℕ
state_after n = state_from seed n

-- the bit sent at a state: inverted (02), and taken where the feedback enters (house). Figure 6 of 000, which is missing, could change this definition and, of
-- the others, only the figure `first_bits`
unfoldable pub sent_bit : ℕ → ℕ
sent_bit s = 1 - entering s

-- bit n of the stream that begins at the state s
abbrev pub bit_from : ℕ → ℕ → ℕ
bit_from s n = sent_bit (state_from s n)

-- bit n of the test signal
abbrev pub traffic_bit : ℕ → ℕ
traffic_bit n = bit_from seed n
