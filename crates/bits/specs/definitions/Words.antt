-- Words of 126 bits, each in two numbers of 64 bits, and rows of them; and the bytes of such a row.
-- Assumes nothing.
use Rattle.std.specs.Prelude.{cond, List, ℕ, ◌+◌, ◌*◌, ◌-◌, ◌/◌, ◌%◌, ◌^◌, eqb, get_or}
use Rattle.bits.specs.definitions.Bits.{tabulate}

-- bits 0 to 61 are the 62 low bits of hi, bits 62 to 125 are lo; what stands above bit 0 in hi is no part of the word
unfoldable pub word_of : ℕ → ℕ → ℕ
word_of hi lo = hi % 2 ^ 62 * 2 ^ 64 + lo

-- word i of a row of numbers, two a word
unfoldable pub word_at : List ℕ → ℕ → ℕ
word_at s i = word_of (get_or s (2 * i) 0) (get_or s (2 * i + 1) 0)

-- number j of the row of the words f 0, f 1, ..: the upper 62 bits of word j / 2, or its lower 64
unfoldable pub half_of : (ℕ → ℕ) → ℕ → ℕ
half_of f j = cond (eqb (j % 2) 0) (f (j / 2) / 2 ^ 64) (f (j / 2) % 2 ^ 64)

-- the row of the n words f 0, .., f (n - 1), in 2 n numbers
abbrev pub row_of : ℕ → (ℕ → ℕ) → List ℕ
row_of n f = tabulate (2 * n) (half_of f)

-- the bytes of the n words of a row, sixteen a word, the top byte first; a word has 126 bits, so the two bits on top are 0
unfoldable pub word_bytes : ℕ → List ℕ → List ℕ
word_bytes n s = tabulate (16 * n) (λ j. word_at s (j / 16) / 2 ^ (8 * (15 - j % 16)) % 256)
