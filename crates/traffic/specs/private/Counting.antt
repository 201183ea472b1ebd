-- Recovered lanes compared with what was sent, which they hold behind the fill. No promise to a caller rests on a definition here.
-- Assumes nothing.
use Rattle.std.specs.Prelude.{Bool, not, ◌&&◌, List, ℕ, ◌+◌, ◌*◌, ◌-◌, eqb, ltb, sum_by, zip, count_ones}
use Rattle.std.specs.Int.Bits.{bit_xor}
use Rattle.bits.specs.definitions.Bits.{bit_at}

-- in how many bits two byte strings differ, as far as both go
abbrev pub differing : List ℕ → List ℕ → ℕ
differing a b = sum_by (λ p. count_ones (bit_xor p.0 p.1)) (zip a b)

-- bit i of lane p stands behind the lane's first `fill` bytes, and differs from the bit that stands as far behind the beginning of the lane in what was sent
unfoldable pub differs : ℕ → (lanes sent : List ℕ) → ℕ → ℕ → Bool
differs fill lanes sent p i = not (ltb i (8 * fill)) && not (eqb (bit_at lanes (1320 * p + i)) (bit_at sent (1320 * p + (i - 8 * fill))))
