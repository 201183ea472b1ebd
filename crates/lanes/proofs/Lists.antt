-- The tables of src/tables.rt as lists. Written by the program `tables` of second/.
-- Assumes nothing.
use mathlib.Core.List.{List, [], ◌∷◌}
use Prim.Native.Nat.{ℕ}

-- `MASKS`
abbrev pub masks : List ℕ
masks =
    0 ∷ 0 ∷ 0 ∷ 0 ∷ 0 ∷ 255 ∷ 192 ∷ 0 ∷ 0 ∷ 0 ∷ 0 ∷ 63 ∷ 240 ∷ 0 ∷ 0 ∷ 255 ∷ 255 ∷
    240 ∷ 0 ∷ 0 ∷ 0 ∷ 0 ∷ 15 ∷ 252 ∷ 0 ∷ 255 ∷ 192 ∷ 15 ∷ 252 ∷ 0 ∷ 0 ∷ 63 ∷ 255 ∷ 252 ∷
    0 ∷ 255 ∷ 255 ∷ 255 ∷ 252 ∷ 0 ∷ 0 ∷ 0 ∷ 0 ∷ 3 ∷ 255 ∷ 255 ∷ 192 ∷ 0 ∷ 3 ∷ 255 ∷ 0 ∷
    63 ∷ 240 ∷ 3 ∷ 255 ∷ 255 ∷ 255 ∷ 240 ∷ 3 ∷ 255 ∷ 0 ∷ 0 ∷ 15 ∷ 255 ∷ 255 ∷ 255 ∷ 192 ∷ 15 ∷
    255 ∷ 255 ∷ 0 ∷ 63 ∷ 255 ∷ 255 ∷ 255 ∷ 255 ∷ 255 ∷ 255 ∷ 255 ∷ 255 ∷ []
