-- Test traffic over the line (02, request 01): undamaged, and hit by flips; `proofs/Traffic` proves each.
-- Assumes nothing.
use Rattle.std.specs.Prelude.{◌≡◌, true, ◌↔◌, List, ℕ, ◌+◌, ◌*◌, ◌<◌, length, replicate}
use Rattle.bits.specs.definitions.Bits.{tabulate, count}
use Rattle.lanes.specs.definitions.Permutation.{Places}
use Rattle.traffic.specs.definitions.Traffic.{Generated}
use Rattle.traffic.specs.definitions.Checker.{Checks}
use Rattle.demands.specs.definitions.Return.{Undamaged}
use Rattle.demands.specs.definitions.Trial.{Trial, Accepted, Wrong}
use Rattle.demands.specs.definitions.Traffic.{is_wrong, wrong_in_lane}

-- test traffic sent over an undamaged line, from fresh states: the checker counts 0 in every lane of every frame
abbrev pub TrafficReturns : Type 0
TrafficReturns =
    (n : ℕ) (lent lanes : ℕ → List ℕ) → Generated n lent lanes
    → (ex : Places) (sent_numbers numbers : ℕ → ℕ) (back flag_bytes : ℕ → List ℕ) → Undamaged ex n lanes sent_numbers numbers back flag_bytes
    → (f : ℕ) → f < n → (c : List ℕ) (r : ℕ) (c' : List ℕ) → Checks f (back f) c r c' → length c ≡ 32 → (r ≡ 0) × (c' ≡ replicate 32 0)

-- test traffic hit by flips, no frame refused: the counts are demand 3's wrong bits behind the fill, lane by lane. Those in the 36 blocks of zeros are skipped,
-- as the request says
abbrev pub TrafficHit : Type 0
TrafficHit =
    (n : ℕ) (lent lanes : ℕ → List ℕ) → Generated n lent lanes
    → (ex : Places) (flips room outs flag_buffers : ℕ → List ℕ) (t : Trial ex n flips lanes room outs flag_buffers) → Accepted t
    → (f : ℕ) → f < n → (c : List ℕ) (r : ℕ) (c' : List ℕ) → Checks f (t.back f) c r c' → length c ≡ 32 → (r ≡ 0) × (c' ≡ tabulate 32 (wrong_in_lane t f))

-- what is counted so are the wrong bits of demand 3; and from frame 2 on, all of them
abbrev pub WrongTest : Type 0
WrongTest =
    (ex : Places) (n : ℕ) (flips lanes room outs flag_buffers : ℕ → List ℕ) (t : Trial ex n flips lanes room outs flag_buffers)
    → ((p i : ℕ) → (is_wrong t p i ≡ true) ↔ Wrong t p i)
    × ((f p : ℕ) → 1 < f → wrong_in_lane t f p ≡ count (λ i. is_wrong t p (1320 * f + i)) 1320)

-- so what is counted of test traffic is what any other lanes suffer behind the fill from the same flips, call by call with outputs and flags of the same
-- lengths
abbrev pub TrafficSpeaks : Type 0
TrafficSpeaks =
    (n : ℕ) (lent lanes : ℕ → List ℕ) → Generated n lent lanes
    → (ex : Places) (flips room outs flag_buffers : ℕ → List ℕ) (t : Trial ex n flips lanes room outs flag_buffers) → Accepted t
    → (lanes' room' outs' flag_buffers' : ℕ → List ℕ) (b : Trial ex n flips lanes' room' outs' flag_buffers')
    → ((f : ℕ) → f < n → (length (outs f) ≡ length (outs' f)) × (length (flag_buffers f) ≡ length (flag_buffers' f)))
    → (f : ℕ) → f < n → (c : List ℕ) (r : ℕ) (c' : List ℕ) → Checks f (t.back f) c r c' → length c ≡ 32 → c' ≡ tabulate 32 (wrong_in_lane b f)
