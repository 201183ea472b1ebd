-- Demand 2: an undamaged stream from fresh states comes back 36 blocks later in every lane, behind 36 blocks of zeros, whole but for the last 36 blocks;
-- `proofs/Return` proves the first and the last, `proofs/Trial` that there are such runs.
-- Assumes nothing.
use Rattle.std.specs.Prelude.{◌≡◌, List, ℕ, ◌+◌, ◌*◌, ◌<◌, length, replicate}
use Rattle.lanes.specs.definitions.Permutation.{Places}
use Rattle.lanes.specs.definitions.Stream.{stream_bit}
use Rattle.demands.specs.definitions.Return.{Undamaged}

-- no call is refused, every frame's lanes come back whole and every flag is 0, the first 36 blocks of every lane (1,440 bits) are zeros, and bit i of a lane
-- comes back as its bit i + 1,440
abbrev pub Return : Type 0
Return =
    (ex : Places) (n : ℕ) (lanes : ℕ → List ℕ) (sent_numbers numbers : ℕ → ℕ) (back flag_bytes : ℕ → List ℕ)
    → Undamaged ex n lanes sent_numbers numbers back flag_bytes
    → ((f : ℕ) → f < n → (sent_numbers f ≡ 0) × (numbers f ≡ 0))
    × ((f : ℕ) → f < n → (length (back f) ≡ 5280) × (flag_bytes f ≡ replicate 384 0))
    × ((p i : ℕ) → p < 32 → i < 1440 → i < 1320 * n → stream_bit back p i ≡ 0)
    × ((p i : ℕ) → p < 32 → i + 1440 < 1320 * n → stream_bit back p (i + 1440) ≡ stream_bit lanes p i)

-- such a run exists for any whole lanes
abbrev pub UndamagedExist : Type 0
UndamagedExist =
    (ex : Places) (n : ℕ) (lanes : ℕ → List ℕ) → ((f : ℕ) → f < n → length (lanes f) ≡ 5280)
    → (sent_numbers : ℕ → ℕ) × (numbers : ℕ → ℕ) × (back : ℕ → List ℕ) × (flag_bytes : ℕ → List ℕ) × Undamaged ex n lanes sent_numbers numbers back flag_bytes

-- a stream of one frame comes back as 33 blocks of zeros in every lane
abbrev pub OneFrame : Type 0
OneFrame =
    (ex : Places) (lanes : ℕ → List ℕ) (sent_numbers numbers : ℕ → ℕ) (back flag_bytes : ℕ → List ℕ)
    → Undamaged ex 1 lanes sent_numbers numbers back flag_bytes → back 0 ≡ replicate 5280 0
