-- Written by the program `tables` of second/: the first 64 bits of test traffic, and the state after 31, 1,000 and 42,240 bits, each found bit by bit.
-- Assumes nothing.
use Rattle.std.specs.Prelude.{List, [], ◌∷◌, ℕ}

-- the first 64 bits as a number, the first on top
abbrev pub first_bits : ℕ
first_bits = 0xFFFFFFF1FFFFFF03

-- a number of bits, and the state after them
pub record StateFigure : Type 0 where
  pub bits : ℕ
  pub state : ℕ

-- after 31, 1,000 and 42,240 bits
unfoldable pub state_figures : List StateFigure
state_figures =
    record { bits = 31; state = 0x00000007 }
    ∷ record { bits = 1000; state = 0x7FF1C700 }
    ∷ record { bits = 42240; state = 0x031225A6 }
    ∷ []
