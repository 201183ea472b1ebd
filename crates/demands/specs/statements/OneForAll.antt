-- Demand 3, first half: one test pattern speaks for all. And demand 2 over a stream: at most two flips in a word are mended.
-- `proofs/OneForAll` proves both.
-- Assumes nothing.
use Rattle.std.specs.Prelude.{◌≡◌, ◌↔◌, List, ℕ, ◌+◌, ◌*◌, ◌≤◌, ◌<◌, length, get_or}
use Rattle.lanes.specs.definitions.Permutation.{Places}
use Rattle.demands.specs.definitions.Trial.{Trial, Accepted, flips_in, Wrong}

-- any two lane streams of equal length, the same flips, and call by call outputs and flags of the same lengths, right or wrong: the same refusals and word
-- flags (a refused frame gives none) and, if no frame was refused, the same places of wrong bits
abbrev pub OneForAll : Type 0
OneForAll =
    (ex : Places) (n : ℕ) (flips : ℕ → List ℕ)
    → (lanes room outs flag_buffers : ℕ → List ℕ) (a : Trial ex n flips lanes room outs flag_buffers)
    → (lanes' room' outs' flag_buffers' : ℕ → List ℕ) (b : Trial ex n flips lanes' room' outs' flag_buffers')
    → ((f : ℕ) → f < n → (length (outs f) ≡ length (outs' f)) × (length (flag_buffers f) ≡ length (flag_buffers' f)))
    → ((f : ℕ) → f < n → a.numbers f ≡ b.numbers f)
    × ((f : ℕ) → f < n → a.numbers f ≡ 0 → a.flag_bytes f ≡ b.flag_bytes f)
    × (Accepted a → (p i : ℕ) → p < 32 → i < 1320 * n → Wrong a p i ↔ Wrong b p i)

-- at most two flips in a word of a frame that was not refused: its flag says how many, 0, 1 or 2. In every word: if no frame was refused, the lanes come
-- back as if undamaged
abbrev pub TwoFlips : Type 0
TwoFlips =
    (ex : Places) (n : ℕ) (flips lanes room outs flag_buffers : ℕ → List ℕ) (t : Trial ex n flips lanes room outs flag_buffers)
    → ((f k p : ℕ) → f < n → t.numbers f ≡ 0 → k < 12 → p < 32 → flips_in flips p (12 * f + k) ≤ 2
    → get_or (t.flag_bytes f) (32 * k + p) 0 ≡ flips_in flips p (12 * f + k))
    × (((p w : ℕ) → p < 32 → w < 12 * n → flips_in flips p w ≤ 2) → Accepted t → (f : ℕ) → f < n → t.back f ≡ t.clean_back f)
