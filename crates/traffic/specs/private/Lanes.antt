-- The lanes of a stream: its groups of four symbols, four of them turned, and blocks put down. No promise to a caller rests on a definition here.
-- Assumes nothing.
use Rattle.std.specs.Prelude.{◌≡◌, cond, ◌⊎◌, List, [], ℕ, ◌+◌, ◌*◌, ◌-◌, ◌/◌, ◌%◌, ◌≤◌, ◌<◌, eqb, get_or}
use Rattle.bits.specs.definitions.Bits.{tabulate, number, bit_of, bit_at, AllBytes}
use Rattle.traffic.specs.definitions.Traffic.{placed}

-- bit i of a list of words
unfoldable pub words_bit : List ℕ → ℕ → ℕ
words_bit words i = bit_of 64 (get_or words (i / 64) 0) (i % 64)

-- the 64 bits from bit i on
unfoldable pub window_at : List ℕ → ℕ → ℕ
window_at words i = number 64 (λ q. words_bit words (i + q))

-- row s in eight groups: a group begins every 40 bits
unfoldable pub row_of : List ℕ → ℕ → List ℕ
row_of words s = tabulate 8 (λ m. window_at words (320 * s + 40 * m))

-- the four rows of which block i of every lane is made
unfoldable pub rows_of : List ℕ → ℕ → List (List ℕ)
rows_of words i = tabulate 4 (λ j. row_of words (4 * i + j))

-- r is a with bits of b, and t is b with bits of a: where the mask has bit q, bit q of b and bit q + n of a change places. Bit q of t is told where a has one
-- n behind it
pub record Exchanged (a b n mask r t : ℕ) : Type 0 where
  pub first : (q : ℕ) → q < n → bit_of 64 r q ≡ bit_of 64 a q
  pub rest : (q : ℕ) → n ≤ q → q < 64 → bit_of 64 r q ≡ cond (eqb (bit_of 64 mask (q - n)) 1) (bit_of 64 b (q - n)) (bit_of 64 a q)
  pub other : (q : ℕ) → q + n < 64 → bit_of 64 t q ≡ cond (eqb (bit_of 64 mask q) 1) (bit_of 64 a (q + n)) (bit_of 64 b q)

-- symbol j of new number k is symbol k of old number j, j and k being below four
pub record Turned (groups turned : List ℕ) : Type 0 where
  pub symbol : (k j e : ℕ) → k < 4 → j < 4 → e < 10 → bit_of 64 (get_or turned k 0) (10 * j + e) ≡ bit_of 64 (get_or groups j 0) (10 * k + e)

-- block i of lane p is the 40 top bits of v; what stands before it, and what stands in the lanes behind lane p, is kept
pub record BlockPut (i p v : ℕ) (l l' : List ℕ) : Type 0 where
  pub bytes : AllBytes l'
  pub here : (c : ℕ) → c < 40 → bit_at l' (1320 * p + 40 * i + c) ≡ bit_of 64 v c
  pub kept : (j : ℕ) → (j < 1320 * p + 40 * i) ⊎ (1320 * p + 1320 ≤ j) → bit_at l' j ≡ bit_at l j

-- block i of the first n lanes is made of the rows; what stands before it in any lane is kept
pub record BlocksPut (rows : List (List ℕ)) (i n : ℕ) (l l' : List ℕ) : Type 0 where
  pub bytes : 0 < n → AllBytes l'
  pub here : (p j e : ℕ) → p < n → j < 4 → e < 10
      → bit_at l' (1320 * p + 40 * i + 10 * j + e) ≡ bit_of 64 (get_or (get_or rows j []) (p / 4) 0) (10 * (p % 4) + e)
  pub kept : (p j : ℕ) → p < 32 → j < 40 * i → bit_at l' (1320 * p + j) ≡ bit_at l (1320 * p + j)

-- the first n blocks of every lane hold the words placed
pub record Placed (words : List ℕ) (n : ℕ) (lanes : List ℕ) : Type 0 where
  pub bytes : 0 < n → AllBytes lanes
  pub bit : (p i : ℕ) → p < 32 → i < 40 * n → bit_at lanes (1320 * p + i) ≡ placed (words_bit words) p i
