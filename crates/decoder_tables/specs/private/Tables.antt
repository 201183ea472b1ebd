-- The rules of the decoder's tables: what each entry is, in terms of the code. `Locator` promises them to `decoder` alone; nothing that a host or an examiner
-- is told rests on them.
-- Assumes nothing.
use Rattle.std.specs.Prelude.{◌≡◌, cond, List, ℕ, ◌+◌, ◌*◌, ◌-◌, ◌/◌, ◌%◌, ◌^◌, ◌<◌, ◌≤◌, ltb, min, max, get_or}
use Rattle.std.specs.Int.Bits.{bit_xor}
use Rattle.bch.specs.definitions.Code.{remainder}
use Rattle.decoder_tables.specs.declared.Arrays.{Arrays}

-- the word whose only bit is bit i; 0 where a word has no bit i
unfoldable pub single : ℕ → ℕ
single i = cond (ltb i 126) (2 ^ (125 - i)) 0

-- its remainder
unfoldable pub column : ℕ → ℕ
column i = remainder 126 (single i)

-- of `columns` entry i is the remainder of bit i, or of none
pub record IsColumns (t : List ℕ) : Type 0 where
  pub entry : (i : ℕ) → i < 128 → get_or t i 0 ≡ column i

-- of `single_bits` entries 2 i and 2 i + 1 are the two numbers of the word whose only bit is bit i, or of 0
pub record IsSingleBits (t : List ℕ) : Type 0 where
  pub entry : (i : ℕ) → i < 128 → get_or t (2 * i) 0 * 2 ^ 64 + get_or t (2 * i + 1) 0 ≡ single i
  pub small : (i : ℕ) → i < 128 → get_or t (2 * i + 1) 0 < 2 ^ 64

-- the word w with the bits at places i and j flipped
abbrev pub flipped_at : ℕ → ℕ → ℕ → ℕ
flipped_at w i j = bit_xor w (bit_xor (single i) (single j))

-- two places in rising order
unfoldable pub rising_of : ℕ × ℕ → ℕ × ℕ
rising_of p = (min p.0 p.1, max p.0 p.1)

-- the values of the remainder s at two elements of the field of 128, from its two bytes
unfoldable pub values_of : List ℕ → ℕ → ℕ
values_of field s = bit_xor (get_or field (s % 256) 0) (get_or field (256 + s / 256) 0)

-- the place that the look-ups lead to from the values v: the place of the first value, moved by what lies between the two, in one of two tables
unfoldable pub place_by : Arrays → (move : List ℕ) → ℕ → ℕ
place_by a move v = get_or a.place (get_or a.log (v % 128) 0 + get_or move (get_or a.cube (v % 128) 0 + 127 - get_or a.log (v / 128 % 128) 0) 0) 0

-- the two places that the look-ups lead to from the remainder s
unfoldable pub located : Arrays → ℕ → ℕ × ℕ
located a s = (place_by a a.one (values_of a.field s), place_by a a.other (values_of a.field s))

-- from the remainder of at most two bits the look-ups lead to their places, 127 for none; and from any remainder they stay within the tables, ways being bytes
pub record Finds (a : Arrays) : Type 0 where
  pub no_bit : rising_of (located a 0) ≡ (127, 127)
  pub one_bit : (i : ℕ) → i < 126 → rising_of (located a (column i)) ≡ (i, 127)
  pub two_bits : (i j : ℕ) → i < j → j < 126 → rising_of (located a (bit_xor (column i) (column j))) ≡ (i, j)
  pub log_most : (k : ℕ) → get_or a.log k 0 ≤ 126
  pub cube_most : (k : ℕ) → get_or a.cube k 0 ≤ 126
  pub place_most : (k : ℕ) → get_or a.place k 0 ≤ 127
