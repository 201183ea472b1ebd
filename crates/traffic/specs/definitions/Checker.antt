-- The checker of test traffic (02, request 01): how many bits of each lane of a recovered frame are wrong. The fill, 36 blocks of zeros, is skipped.
-- Assumes nothing.
use Rattle.std.specs.Prelude.{◌≡◌, Bool, not, ◌&&◌, List, ℕ, ◌+◌, ◌*◌, ◌-◌, eqb, ltb}
use Rattle.bits.specs.definitions.Bits.{tabulate, count}
use Rattle.bits.specs.definitions.Call.{unless, after}
use Rattle.lanes.specs.definitions.Permutation.{lanes_of}
use Rattle.traffic.specs.definitions.Register.{traffic_bit}
use Rattle.traffic.specs.definitions.Traffic.{placed}

-- so many bits of every lane are fill: 36 blocks of 40
abbrev pub fill_bits : ℕ
fill_bits = 1440

-- bit i of every lane of recovered frame f is compared: with a lane's bits counted over all frames it is behind the fill. f counts from the fresh start
abbrev pub compared : ℕ → ℕ → Bool
compared f i = not (ltb (1320 * f + i) fill_bits)

-- bit i of lane p of recovered frame f is compared, and differs from the bit that was sent 36 blocks before
unfoldable pub wrong_bit : ℕ → List ℕ → ℕ → ℕ → Bool
wrong_bit f lanes p i = compared f i && not (eqb (lanes_of lanes p i) (placed traffic_bit p (1320 * f + i - fill_bits)))

-- how many bits of each of the 32 lanes are wrong
unfoldable pub wrong_counts : ℕ → List ℕ → List ℕ
wrong_counts f lanes = tabulate 32 (λ p. count (wrong_bit f lanes p) 1320)

-- 1 where the recovered lanes are not 5,280 bytes, then 3 where there are not 32 counts; 0 is done
abbrev pub check_number : List ℕ → List ℕ → ℕ
check_number lanes c = unless 5280 lanes 1 (unless 32 c 3 0)

-- a call that checks recovered frame f, with the counts c to be written: the number answered, and the counts at exit
pub record Checks (f : ℕ) (lanes c : List ℕ) (r : ℕ) (c' : List ℕ) : Type 0 where
  pub number : r ≡ check_number lanes c
  pub counts : c' ≡ after (check_number lanes c) (wrong_counts f lanes) c
