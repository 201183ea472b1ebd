-- The signal's bits in words of 64, and states that are as far from one another, for the functions that make them. No promise to a caller rests on a
-- definition here.
-- Assumes nothing.
use Rattle.std.specs.Prelude.{◌≡◌, List, ℕ, ◌+◌, ◌*◌, ◌/◌, ◌%◌, ◌^◌, ◌<◌, length, get_or}
use Rattle.std.specs.Int.Bits.{bit_and, bit_xor}
use Rattle.bits.specs.definitions.Bits.{number}
use Rattle.traffic.specs.definitions.Register.{state_from, bit_from}

-- word k of the stream from the state s on
unfoldable pub stream_word : ℕ → ℕ → ℕ
stream_word s k = number 64 (λ q. bit_from s (64 * k + q))

-- the first n words of a list are the stream's from the state s on
pub record Streams (s n : ℕ) (words : List ℕ) : Type 0 where
  pub word : (k : ℕ) → k < n → get_or words k 0 ≡ stream_word s k

-- `next_words`, `grow`: a list whose first words, up to `from`, are a stream, whichever it is, becomes one whose first words up to `end` are
pub record Grows (from end : ℕ) (words words' : List ℕ) : Type 0 where
  pub long : length words' ≡ length words
  pub streams : (s : ℕ) → s < 2 ^ 31 → Streams s from words → Streams s end words'

-- the terms of a state: which of the first 31 states behind 1 it is the sum of. These are 1, 2, 4 to 2^27, 2^28 + 1, 2^29 + 2 and 2^30 + 4; the same back
abbrev pub terms_of : ℕ → ℕ
terms_of a = bit_xor a (a / 2 ^ 28)

-- `as_far`: the state r is as many bits after the state s as the state a is after 1, however many these are
pub record AsFar (a s r : ℕ) : Type 0 where
  pub far : (n : ℕ) → a ≡ state_from 1 n → r ≡ state_from s n

-- `parted`: x and x moved up k places, as far as the mask lets through
unfoldable pub parted_of : ℕ → ℕ → ℕ → ℕ
parted_of k mask x = bit_and (bit_xor x (x * 2 ^ k % 2 ^ 64)) mask

-- `spread`: for a number of up to 32 bits, the bit worth 2^i becomes one worth 2^(2 i)
unfoldable pub spread_of : ℕ → ℕ
spread_of x =
    parted_of 1 0x5555555555555555 (parted_of 2 0x3333333333333333 (parted_of 4 0x0F0F0F0F0F0F0F0F
    (parted_of 8 0x00FF00FF00FF00FF (parted_of 16 0x0000FFFF0000FFFF x))))

-- `reduced`: term i, from 31 on, becomes the terms i - 31 and i - 28
unfoldable pub reduced_of : ℕ → ℕ
reduced_of x = bit_xor (bit_xor (x % 2 ^ 31) (x / 2 ^ 31)) (x / 2 ^ 31 * 2 ^ 3 % 2 ^ 64)

-- `doubled`: the state r is twice as many bits after 1 as the state a is
pub record Doubled (a r : ℕ) : Type 0 where
  pub twice : (n : ℕ) → a ≡ state_from 1 n → r ≡ state_from 1 (n + n)
