-- The rule of the table by which the parity is worked out: what each entry is, in terms of the code. Nothing that a caller is told rests on it.
-- Assumes nothing.
use Rattle.std.specs.Prelude.{◌≡◌, List, ℕ, ◌*◌, ◌^◌, ◌<◌, get_or}
use Rattle.bch.specs.definitions.Code.{remainder}

-- `byte_remainders`: entry b is the remainder of b times x^16, a polynomial of 24 coefficients
pub record IsByteRemainders (t : List ℕ) : Type 0 where
  pub entry : (b : ℕ) → b < 256 → get_or t b 0 ≡ remainder 24 (b * 2 ^ 16)
