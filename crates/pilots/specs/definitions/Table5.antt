-- The pilots as 000 prints them (7.1, table 5), a byte each: XI, XQ, YI, YQ, two bits each, XI on top.
-- Assumes nothing.
use Rattle.std.specs.Prelude.{List, [], ◌∷◌, ℕ}

-- the 96 pilot bytes, copied from table 5, which decides
unfoldable pub pilots : List ℕ
pilots =
    136 ∷ 138 ∷ 170 ∷ 128 ∷ 130 ∷ 2 ∷ 160 ∷ 34 ∷ 32 ∷ 40 ∷ 0 ∷ 40 ∷ 170 ∷ 32 ∷ 10 ∷ 130 ∷
    34 ∷ 136 ∷ 138 ∷ 2 ∷ 138 ∷ 138 ∷ 168 ∷ 42 ∷ 32 ∷ 2 ∷ 168 ∷ 160 ∷ 168 ∷ 0 ∷ 32 ∷ 128 ∷
    162 ∷ 42 ∷ 8 ∷ 0 ∷ 130 ∷ 162 ∷ 128 ∷ 168 ∷ 170 ∷ 40 ∷ 32 ∷ 0 ∷ 2 ∷ 2 ∷ 168 ∷ 8 ∷
    162 ∷ 8 ∷ 138 ∷ 10 ∷ 160 ∷ 8 ∷ 136 ∷ 160 ∷ 2 ∷ 8 ∷ 128 ∷ 34 ∷ 138 ∷ 32 ∷ 160 ∷ 138 ∷
    130 ∷ 42 ∷ 162 ∷ 8 ∷ 34 ∷ 0 ∷ 168 ∷ 162 ∷ 2 ∷ 162 ∷ 32 ∷ 136 ∷ 32 ∷ 162 ∷ 32 ∷ 32 ∷
    42 ∷ 170 ∷ 138 ∷ 170 ∷ 40 ∷ 136 ∷ 10 ∷ 10 ∷ 168 ∷ 34 ∷ 10 ∷ 128 ∷ 136 ∷ 42 ∷ 138 ∷ 10 ∷ []
