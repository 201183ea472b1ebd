-- The first start of a frame in a whole run of symbols (02, request 04).
-- Assumes nothing.
use Rattle.std.specs.Prelude.{◌≡◌, true, false, cond, List, ℕ, ◌+◌, ◌<◌, ◌≤◌, ltb, length}
use Rattle.pilots.specs.definitions.Pilots.{frame_symbols, locks, offsets, first_lock}
use Rattle.hunt.specs.definitions.Found.{Found}
use Rattle.hunt.specs.definitions.Found as found

-- the number that refuses a run, all pieces together, that is shorter than a frame
abbrev pub short_run : ℕ
short_run = 13

-- refused by 13 where the run is shorter than a frame; else the smallest offset at which a whole frame fits and locks under refusal 5's rule, and none
-- where there is no such offset
unfoldable pub find : List ℕ → Found
find s = cond (ltb (length s) frame_symbols) (found.Refused short_run) (cond (ltb (first_lock s) (offsets s)) (found.At (first_lock s)) found.None)

-- offset o is the first start of the run s: a whole frame fits there and locks, and at no smaller offset s locks
pub record Starts (s : List ℕ) (o : ℕ) : Type 0 where
  pub fits : o + frame_symbols ≤ length s
  pub locked : locks s o ≡ true
  pub first : (p : ℕ) → p < o → locks s p ≡ false

-- the answer is an offset, and no larger one than n
abbrev pub FoundBy : List ℕ → ℕ → Type 0
FoundBy s n = (o : ℕ) × (find s ≡ found.At o) × (o ≤ n)
