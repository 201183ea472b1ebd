-- A word's information rotated, and every word of a row, as numbers or as bytes. No promise to a caller rests on a definition here.
-- Assumes nothing.
use Rattle.std.specs.Prelude.{◌≡◌, ◌≢◌, cond, List, ℕ, ◌+◌, ◌*◌, ◌-◌, ◌/◌, ◌%◌, ◌^◌, ◌<◌, ltb, get_or}
use Rattle.bits.specs.definitions.Bits.{number, bit_of}
use Rattle.bits.specs.definitions.Words.{word_at, row_of}

-- the bit that comes to place r when the 110 information bits rotate by n places
unfoldable pub rotated_from : ℕ → ℕ → ℕ
rotated_from n r = cond (ltb r 110) ((r + (110 - n)) % 110) r

-- a word whose information has rotated by n places
unfoldable pub rotated : ℕ → ℕ → ℕ
rotated n w = number 126 (λ r. bit_of 126 w (rotated_from n r))

-- the n last bits of x and then the 55 - n first of y, both numbers of 55 bits
unfoldable pub crossed : ℕ → ℕ → ℕ → ℕ
crossed n x y = x % 2 ^ n * 2 ^ (55 - n) + y / 2 ^ n

-- the first half of the halves x and y rotated by n places; the second half is that of y and x
unfoldable pub rotated_first : ℕ → ℕ → ℕ → ℕ
rotated_first n x y = cond (ltb n 55) (crossed n y x) (crossed (n - 55) x y)

-- word i of the row o, two numbers a word, is w
abbrev pub HoldsNumbers : List ℕ → ℕ → ℕ → Type 0
HoldsNumbers o i w = (get_or o (2 * i) 0 ≡ w / 2 ^ 64) × (get_or o (2 * i + 1) 0 ≡ w % 2 ^ 64)

-- word i of the bytes o, sixteen a word, is w
abbrev pub HoldsBytes : List ℕ → ℕ → ℕ → Type 0
HoldsBytes o i w = (b : ℕ) → b < 16 → get_or o (16 * i + b) 0 ≡ w / 2 ^ (8 * (15 - b)) % 256

-- word i of the row r is w, where H says so; its other words are those of r₀
pub record WordPut {R : Type 0} (H : R → ℕ → ℕ → Type 0) (i w : ℕ) (r₀ r : R) : Type 0 where
  pub here : H r i w
  pub there : (j v : ℕ) → j ≢ i → H r₀ j v → H r j v

-- the row r has the first k words of lane p of the row s, rotated by n places; its other lanes are those of r₀
pub record LaneRotated {R : Type 0} (H : R → ℕ → ℕ → Type 0) (n p : ℕ) (s : List ℕ) (r₀ : R) (k : ℕ) (r : R) : Type 0 where
  pub here : (i : ℕ) → i < 384 → i % 32 ≡ p → i / 32 < k → H r i (rotated n (word_at s i))
  pub there : (j v : ℕ) → j % 32 ≢ p → H r₀ j v → H r j v

-- the row r has the words of the lanes below lane p of the row s, each rotated by m times its lane's number
pub record LanesRotated {R : Type 0} (H : R → ℕ → ℕ → Type 0) (m : ℕ) (s : List ℕ) (p : ℕ) (r : R) : Type 0 where
  pub below : (i : ℕ) → i < 384 → i % 32 < p → H r i (rotated (m * (i % 32) % 110) (word_at s i))

-- a row of words, each of lane p rotated by m p places
unfoldable pub rotated_row : ℕ → List ℕ → List ℕ
rotated_row m s = row_of 384 (λ i. rotated (m * (i % 32) % 110) (word_at s i))
