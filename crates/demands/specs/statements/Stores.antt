-- After an undamaged stream the last 36 blocks of each lane are still in the two stores (01, interleaver); `proofs/Stores` proves both.
-- Assumes nothing.
use Rattle.std.specs.Prelude.{◌≡◌, Bool, cond, List, ℕ, ◌+◌, ◌*◌, ◌≤◌, ◌<◌}
use Rattle.bits.specs.definitions.Bits.{bit_at}
use Rattle.lanes.specs.definitions.Permutation.{Places}
use Rattle.lanes.specs.definitions.Stream.{stream_bit}
use Rattle.demands.specs.definitions.Return.{Undamaged}
use Rattle.demands.specs.definitions.Stores.{LastBlocks}

-- row by row, block by block
abbrev pub StoresHold : Type 0
StoresHold =
    (ex : Places) (n : ℕ) (lanes : ℕ → List ℕ) (sent_numbers numbers : ℕ → ℕ) (back flag_bytes : ℕ → List ℕ)
    (u : Undamaged ex n lanes sent_numbers numbers back flag_bytes)
    → LastBlocks ex n lanes (u.sent_stores n) (u.stores n)

-- So nothing is lost: each of the last 1,440 bits of a lane, or of all that there are, stands in one of the two stores at a place that does not depend on what
-- was sent
abbrev pub LastKept : Type 0
LastKept =
    (ex : Places) (n p i : ℕ) → p < 32 → i < 1320 * n → 1320 * n ≤ i + 1440
    → (of_sender : Bool) × (place : ℕ) × (place < 23040)
    × ((lanes : ℕ → List ℕ) (sent_numbers numbers : ℕ → ℕ) (back flag_bytes : ℕ → List ℕ) (u : Undamaged ex n lanes sent_numbers numbers back flag_bytes)
    → bit_at (cond of_sender (u.sent_stores n) (u.stores n)) place ≡ stream_bit lanes p i)
