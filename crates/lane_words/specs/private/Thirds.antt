-- What the code's own functions say of the thirds of the lanes: a third is four words in 55 bytes, and it is read, and written, as seven numbers of 64 bits.
-- No promise to a caller rests on a definition here.
-- Assumes nothing.
use Rattle.std.specs.Prelude.{◌≡◌, List, ℕ, ◌+◌, ◌*◌, ◌-◌, ◌/◌, ◌%◌, ◌^◌, ◌<◌, length, get_or, set}
use Rattle.bits.specs.definitions.Bits.{field_at}

-- number j of the seven of third t of lane p: they follow each other from its first bit on, but the last begins eight bits sooner, and ends with the third
unfoldable pub number_at : List ℕ → ℕ → ℕ → ℕ → ℕ
number_at a p t j = field_at a (1320 * p + 440 * t + (64 * j - 8 * (j / 6))) 64

-- where word k of lane p stands in a row
abbrev pub word_place : ℕ → ℕ → ℕ
word_place k p = 32 * k + p

-- the row w with another word k of lane p: the first 62 bits of x, the first 48 of y, and parity bits 0
abbrev pub with_word : List ℕ → ℕ → ℕ → ℕ → ℕ → List ℕ
with_word w k p x y = set (set w (2 * word_place k p) (x / 4)) (2 * word_place k p + 1) (y / 65536 * 65536)

-- the row w has the first n words of the lanes a: in their order, word j is word j % 12 of lane j / 12
pub record Placed (a : List ℕ) (n : ℕ) (w : List ℕ) : Type 0 where
  pub long : length w ≡ 768
  pub upper : (j : ℕ) → j < n → get_or w (2 * word_place (j % 12) (j / 12)) 0 ≡ field_at a (110 * j) 110 * 2 ^ 16 / 2 ^ 64
  pub lower : (j : ℕ) → j < n → get_or w (2 * word_place (j % 12) (j / 12) + 1) 0 ≡ field_at a (110 * j) 110 * 2 ^ 16 % 2 ^ 64

-- the information that a word's second number has: what stands before the parity
abbrev pub information_in : ℕ → ℕ
information_in lo = lo / 2 ^ 16

-- the last a bits of a word's information, and then the first 64 - a of the next word's 62 in its first number
abbrev pub across_of : ℕ → ℕ → ℕ → ℕ
across_of lo hi a = information_in lo % 2 ^ a * 2 ^ (64 - a) + hi * 2 ^ 2 % 2 ^ 64 / 2 ^ a

-- the bytes l are as many as the lanes a, and begin with the first n of them
pub record Written (a : List ℕ) (n : ℕ) (l : List ℕ) : Type 0 where
  pub long : length l ≡ 5280
  pub is : (m : ℕ) → m < n → get_or l m 0 ≡ get_or a m 0
