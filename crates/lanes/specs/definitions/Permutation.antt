-- Lane permutation (01, permutation; 000, 5.1): in each four ten-bit symbols, lanes n and n + 16 exchange the symbols at the exchanged places.
-- Assumes nothing.
use Rattle.std.specs.Prelude.{Bool, cond, List, ℕ, ◌+◌, ◌*◌, ◌/◌, ◌%◌, ◌^◌, eqb}
use Rattle.bits.specs.definitions.Bits.{bit_at, bytes}

-- lanes of bits: lane, then bit
abbrev pub Lanes : Type 0
Lanes = ℕ → ℕ → ℕ

-- a set of places, 0 to 3, of the four
abbrev pub Places : Type 0
Places = ℕ → Bool

-- the set that a number names: place s is in it if the number's bit of worth 2^s is set. The base's is 12, places 2 and 3 (house)
unfoldable pub named : ℕ → Places
named x s = eqb (x / 2 ^ s % 2) 1

-- n + 16 for lane n below 16, and back
abbrev pub partner : ℕ → ℕ
partner p = (p + 16) % 32

-- bit i stands in symbol i / 10, at place i / 10 % 4 of its four. The same both ways
unfoldable pub permuted : Places → Lanes → Lanes
permuted ex x p i = cond (ex (i / 10 % 4)) (x (partner p) i) (x p i)

-- bit i of lane p of a frame of 32 lanes of 165 bytes, lane 0 first (01, one frame in numbers)
abbrev pub lanes_of : List ℕ → Lanes
lanes_of a p i = bit_at a (1320 * p + i)

-- the frame that has given bits
unfoldable pub lane_bytes : Lanes → List ℕ
lane_bytes x = bytes 5280 (λ j. x (j / 1320) (j % 1320))
