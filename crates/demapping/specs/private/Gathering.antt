-- What the way back's own functions promise one another about symbols and the bytes of words. No promise to a caller rests on a definition here.
-- Assumes nothing.
use Rattle.std.specs.Prelude.{cond, List, ℕ, ◌+◌, ◌*◌, ◌-◌, ◌/◌, ◌%◌, ltb, get_or}
use Rattle.bits.specs.definitions.Bits.{bit_of}
use Rattle.symbols.specs.definitions.Dibits.{dibit_in, tributary_in}

-- the dibit of lane r, of the four, in symbol l's byte x
unfoldable pub dibit_of : ℕ → ℕ → ℕ → ℕ
dibit_of l r x = bit_of 8 x (2 * tributary_in l r + l % 2) * 2 + bit_of 8 x (2 * tributary_in l r + (l + 1) % 2)

-- a byte of the word of lane r from a list of four symbols that are turned, of which the first is number l
unfoldable pub gathered_turned : ℕ → ℕ → List ℕ → ℕ
gathered_turned l r s =
    dibit_in (tributary_in l r) (get_or s 0 0) * 64 + dibit_in (tributary_in (l + 1) r) (get_or s 1 0) * 16
    + dibit_in (tributary_in (l + 2) r) (get_or s 2 0) * 4 + dibit_in (tributary_in (l + 3) r) (get_or s 3 0)

-- a byte of the word of lane r: its dibits in four symbols, of which the first is number l
unfoldable pub gathered : ℕ → ℕ → ℕ → ℕ → ℕ → ℕ → ℕ
gathered l r a b c d = dibit_of l r a * 64 + dibit_of (l + 1) r b * 16 + dibit_of (l + 2) r c * 4 + dibit_of (l + 3) r d

-- byte i of n bytes in two lists, one behind the other, one byte to each in turn
unfoldable pub parted_at : ℕ → List ℕ → ℕ → ℕ
parted_at n s i = cond (ltb i (n / 2)) (get_or s (2 * i) 0) (get_or s (2 * (i - n / 2) + 1) 0)

-- such a byte from four lists of 256 symbols, one symbol in each in turn, at place m of each. Symbols parted twice stand so: of each four the first, the
-- third, the second and the fourth
unfoldable pub gathered_from : List ℕ → ℕ → ℕ → ℕ → ℕ
gathered_from s l r m = gathered l r (get_or s m 0) (get_or s (m + 512) 0) (get_or s (m + 256) 0) (get_or s (m + 768) 0)

-- byte i of the words of sixteen rows in such lists, 64 a row; the first row's first symbol is number 3
unfoldable pub rows_at : List ℕ → ℕ → ℕ
rows_at s i = gathered_from s (3 * (i / 64) + 3) (i / 16 % 4) (16 * (i / 64) + i % 16)

-- byte t of the words of a frame with their bits at their places, sixteen a word. The pilot's dibit stands above a word's 126 bits, where it is no part of
-- the word
unfoldable pub gathered_at : List ℕ → ℕ → ℕ
gathered_at f t =
    let at = 64 * (t / 64) + 4 * (t % 16) in
    gathered (3 * (t / 64) + 3) (t / 16 % 4) (get_or f at 0) (get_or f (at + 1) 0) (get_or f (at + 2) 0) (get_or f (at + 3) 0)
