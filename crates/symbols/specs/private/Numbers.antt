-- What the mapping's own functions promise one another about symbols and the bytes of words. No promise to a caller rests on a definition here.
-- Assumes nothing.
use Rattle.std.specs.Prelude.{cond, List, [], ◌∷◌, ℕ, ◌+◌, ◌*◌, ◌/◌, ◌%◌, ◌^◌, ltb, get_or}
use Rattle.bits.specs.definitions.Bits.{number, bit_of}
use Rattle.symbols.specs.definitions.Dibits.{dibit_in}

-- of the four lanes that symbol l carries, the one that tributary t has
unfoldable pub lane_in : ℕ → ℕ → ℕ
lane_in l t = (2 * l + l / 2 % 2 + t) % 4

-- symbol l's byte, from the byte y of four dibits in the lanes' order
unfoldable pub mapped : ℕ → ℕ → ℕ
mapped l y = number 8 (λ i. bit_of 8 y (2 * lane_in l (i / 2) + (i + l) % 2))

-- dibit e of each of four bytes, side by side
unfoldable pub dibits_of : List ℕ → ℕ → ℕ
dibits_of b e = dibit_in e (get_or b 0 0) * 64 + dibit_in e (get_or b 1 0) * 16 + dibit_in e (get_or b 2 0) * 4 + dibit_in e (get_or b 3 0)

-- of four bytes, sixteen apart, from byte m on
unfoldable pub dibits_at : List ℕ → ℕ → ℕ → ℕ
dibits_at b e m = dibits_of (get_or b m 0 ∷ get_or b (m + 16) 0 ∷ get_or b (m + 32) 0 ∷ get_or b (m + 48) 0 ∷ []) e

-- of every fourth symbol of a frame from symbol e on, number j, which stands in row j / 16: from the bytes of the words, 64 a row
unfoldable pub quarter_at : List ℕ → ℕ → ℕ → ℕ
quarter_at b e j = mapped ((3 * (j / 16) + 3 + e) % 4) (dibits_at b e (64 * (j / 16) + j % 16))

-- byte t of the bytes of two rows of numbers of 16 bits, the lower byte first, two and two in turn
unfoldable pub byte_of_two : List ℕ → List ℕ → ℕ → ℕ
byte_of_two x y t = cond (ltb (t % 4) 2) (get_or x (t / 4) 0) (get_or y (t / 4) 0) / 256 ^ (t % 2) % 256
