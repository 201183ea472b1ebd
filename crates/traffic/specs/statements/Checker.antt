-- What the checker compares, and what it counts over streams (02, request 01); `proofs/Counts` proves each.
-- Assumes nothing.
use Rattle.std.specs.Prelude.{◌≡◌, true, false, not, ◌&&◌, List, ℕ, ◌+◌, ◌*◌, ◌-◌, ◌<◌, eqb, ltb, length}
use Rattle.bits.specs.definitions.Bits.{tabulate, count}
use Rattle.lanes.specs.definitions.Stream.{stream_bit}
use Rattle.traffic.specs.definitions.Traffic.{Generated}
use Rattle.traffic.specs.definitions.Checker.{compared, Checks}

-- of frame 0 nothing is compared, of frame 1 not its first three blocks, of later ones everything
abbrev pub Compared : Type 0
Compared =
    ((i : ℕ) → i < 1320 → compared 0 i ≡ false) × ((i : ℕ) → compared 1 i ≡ not (ltb i (3 * 40))) × ((f i : ℕ) → 1 < f → compared f i ≡ true)

-- Test traffic was generated, and something came back. The counts of recovered frame f are exactly how many bits of each lane, those behind the first 1,440 of
-- the lane, differ from the bit of the lane that was sent 36 blocks, 1,440 bits, before
abbrev pub CountsExactly : Type 0
CountsExactly =
    (n : ℕ) (outs sent : ℕ → List ℕ) → Generated n outs sent → (back : ℕ → List ℕ) (f : ℕ) → f < n → length (back f) ≡ 5280
    → (c : List ℕ) (r : ℕ) (c' : List ℕ) → Checks f (back f) c r c' → length c ≡ 32
    → (r ≡ 0)
    × (c' ≡ tabulate 32 (λ p. count (λ i. not (ltb (1320 * f + i) 1440)
    && not (eqb (stream_bit back p (1320 * f + i)) (stream_bit sent p (1320 * f + i - 1440)))) 1320))

-- there is such a call, whatever the frame, the lanes and the counts
abbrev pub ChecksExist : Type 0
ChecksExist = (f : ℕ) (lanes c : List ℕ) → (r : ℕ) × (c' : List ℕ) × Checks f lanes c r c'
