-- Numbers of 64 bits in four digits of 16 bits each, the lowest first.
-- Assumes nothing.
use Rattle.std.specs.Prelude.{List, ℕ, ◌+◌, ◌*◌, get_or}

-- the number of four digits
abbrev pub of_digits : List ℕ → ℕ
of_digits d = ((get_or d 3 0 * 65536 + get_or d 2 0) * 65536 + get_or d 1 0) * 65536 + get_or d 0 0
