-- Of the trials of demand 3: what a flip is, what a call is refused by, and that there are trials; `proofs/Trial` proves each.
-- Assumes nothing.
use Rattle.std.specs.Prelude.{◌≡◌, cond, List, ℕ, ◌+◌, ◌*◌, ◌/◌, ◌%◌, ◌<◌, ltb, length}
use Rattle.bch.specs.definitions.Code.{distance}
use Rattle.lanes.specs.definitions.Permutation.{Places}
use Rattle.symbols.specs.definitions.Frame.{arrived}
use Rattle.bits.specs.definitions.Call.{unless}
use Rattle.demands.specs.definitions.Trial.{hit, Trial, flips_in, hit_pilots}

-- by so many flips a word is hit as it differs, when it arrives, from the word sent
abbrev pub FlipsCounted : Type 0
FlipsCounted =
    (ex : Places) (n : ℕ) (flips lanes room outs flag_buffers : ℕ → List ℕ) (t : Trial ex n flips lanes room outs flag_buffers)
    → (p w : ℕ) → p < 32 → w < 12 * n
    → flips_in flips p w ≡ distance (arrived (hit (t.frames (w / 12)) (flips (w / 12))) (32 * (w % 12) + p)) (arrived (t.frames (w / 12)) (32 * (w % 12) + p))

-- what a call answers: 3 and 4 for a wrong length of the output and of the flags, 5 where 25 or more pilots are hit; 1 and 2 cannot occur
abbrev pub RefusedExactly : Type 0
RefusedExactly =
    (ex : Places) (n : ℕ) (flips lanes room outs flag_buffers : ℕ → List ℕ) (t : Trial ex n flips lanes room outs flag_buffers) (f : ℕ) → f < n
    → t.numbers f ≡ unless 5280 (outs f) 3 (unless 384 (flag_buffers f) 4 (cond (ltb (hit_pilots (flips f)) 25) 0 5))

-- there is a trial for any whole lanes with room for their frames, any flips, and any outputs and flags
abbrev pub TrialsExist : Type 0
TrialsExist =
    (ex : Places) (n : ℕ) (flips lanes room outs flag_buffers : ℕ → List ℕ)
    → ((f : ℕ) → f < n → (length (lanes f) ≡ 5280) × (length (room f) ≡ 6144)) → Trial ex n flips lanes room outs flag_buffers
