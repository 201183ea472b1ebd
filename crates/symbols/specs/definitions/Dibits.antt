-- The four dibits of a byte, as functions that put symbols together and take them apart promise them.
-- Assumes nothing.
use Rattle.std.specs.Prelude.{cond, ℕ, ◌+◌, ◌*◌, ◌-◌, ◌/◌, ◌%◌, ◌^◌, eqb}
use Rattle.std.specs.Int.Bits.{bit_and, bit_or}

-- dibit e of a byte, the first on top
abbrev pub dibit_in : ℕ → ℕ → ℕ
dibit_in e x = x / 4 ^ (3 - e) % 4

-- each dibit of a byte with its two bits swapped
unfoldable pub swapped : ℕ → ℕ
swapped x = bit_or (bit_and (x / 2) 85) (bit_and x 85 * 2 % 256)

-- symbol l's byte as its lanes have its dibits, and back: in an odd symbol the two bits of each are swapped (01, mapping)
abbrev pub turned : ℕ → ℕ → ℕ
turned l x = cond (eqb (l % 2) 1) (swapped x) x

-- of the four lanes that symbol l carries, lane r is had by this tributary (01, mapping): `tributary_of` of a place says the same
unfoldable pub tributary_in : ℕ → ℕ → ℕ
tributary_in l r = (r + 3 * (2 * l + l / 2 % 2)) % 4
