-- What calls of test traffic are refused by, number by number (02, request 01; 01, refusal list); `proofs/Refusals` proves each.
-- Assumes nothing.
use Rattle.std.specs.Prelude.{◌≡◌, ◌≢◌, ◌↔◌, List, ℕ, length}
use Rattle.traffic.specs.definitions.Traffic.{Generates, Continues}
use Rattle.traffic.specs.definitions.Checker.{Checks}

-- a frame asked for directly: 0 or 3; a refused call leaves the output as it was
abbrev pub FrameRefusals : Type 0
FrameRefusals =
    (f : ℕ) (o : List ℕ) (r : ℕ) (o' : List ℕ) → Generates f o r o'
    → (((r ≡ 0) ↔ (length o ≡ 5280)) × ((r ≡ 3) ↔ (length o ≢ 5280)) × (r ≢ 0 → r ≡ 3)) × (r ≢ 0 → o' ≡ o)

-- a frame from a kept state: 0 or 3; a refused call leaves the state and the output as they were
abbrev pub NextRefusals : Type 0
NextRefusals =
    (s : ℕ) (o : List ℕ) (r s' : ℕ) (o' : List ℕ) → Continues s o r s' o'
    → (((r ≡ 0) ↔ (length o ≡ 5280)) × ((r ≡ 3) ↔ (length o ≢ 5280)) × (r ≢ 0 → r ≡ 3)) × (r ≢ 0 → (s' ≡ s) × (o' ≡ o))

-- the checker: 0, 1 or 3, 1 before 3; a refused call leaves the counts as they were
abbrev pub CheckRefusals : Type 0
CheckRefusals =
    (f : ℕ) (lanes c : List ℕ) (r : ℕ) (c' : List ℕ) → Checks f lanes c r c'
    → (((r ≡ 0) ↔ ((length lanes ≡ 5280) × (length c ≡ 32)))
    × ((r ≡ 1) ↔ (length lanes ≢ 5280))
    × ((r ≡ 3) ↔ ((length lanes ≡ 5280) × (length c ≢ 32)))
    × (r ≢ 0 → r ≢ 1 → r ≡ 3))
    × (r ≢ 0 → c' ≡ c)
