-- What a writer of a number's bytes leaves in a list.
-- Assumes nothing.
use Rattle.std.specs.Prelude.{◌≡◌, List, ℕ, ◌+◌, ◌*◌, ◌<◌, ◌≤◌, length, get_or}
use Rattle.bits.specs.definitions.Bits.{field_at, AllBytes}

-- the list l is d but for its n bytes from place o on, which are the number v
pub record Put (n v o : ℕ) (d l : List ℕ) : Type 0 where
  pub long : length l ≡ length d
  pub bytes : AllBytes l
  pub before : (m : ℕ) → m < o → get_or l m 0 ≡ get_or d m 0
  pub after : (m : ℕ) → o + n ≤ m → get_or l m 0 ≡ get_or d m 0
  pub is : field_at l (8 * o) (8 * n) ≡ v

-- the list l is d with the number v as its eight bytes from place o on; where there are not eight, it is d
pub record PutEight (v o : ℕ) (d l : List ℕ) : Type 0 where
  pub room : o + 8 ≤ length d → Put 8 v o d l
  pub none : length d < o + 8 → l ≡ d
