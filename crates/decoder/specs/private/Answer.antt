-- What the decoder's own functions promise one another about remainders, places and rows. No promise to a caller rests on a definition here.
-- Assumes nothing.
use Rattle.std.specs.Prelude.{◌≡◌, ◌⊎◌, cond, Option, Some, None, List, ℕ, ◌+◌, ◌*◌, ◌/◌, ◌%◌, ◌^◌, ◌<◌, ltb, get_or, set}
use Rattle.std.specs.Int.Bits.{bit_xor}
use Rattle.bits.specs.definitions.Bits.{tabulate}
use Rattle.bits.specs.definitions.Words.{row_of}
use Rattle.bch.specs.definitions.Code.{remainder}
use Rattle.decoder_tables.specs.private.Tables.{column, rising_of}
use Rattle.decoder_tables.specs.declared.Pair.{Pair}
use Rattle.decoder.specs.definitions.Mend.{mend, mended, flag_of}
use Rattle.decoder.specs.declared.Mend.{Mend}
use Rattle.decoder.specs.declared.Mend.TheVariants.{Clean, One, Two, Flagged}

-- a pattern of at most two bits, in rising order
unfoldable pub Pattern : Mend → Type 0
Pattern Clean = Unit
Pattern (One i) = i < 126
Pattern (Two i j) = (i < j) × (j < 126)
Pattern Flagged = ⊥

-- the remainder of the word whose bits are the pattern's
unfoldable pub remainder_of : Mend → ℕ
remainder_of Clean = 0
remainder_of (One i) = column i
remainder_of (Two i j) = bit_xor (column i) (column j)
remainder_of Flagged = 0

-- m is the answer to the remainder s: a pattern that has it, or flagged where none has
abbrev pub Answers : ℕ → Mend → Type 0
Answers s m = (Pattern m × (remainder_of m ≡ s)) ⊎ ((m ≡ Flagged) × ((p : Mend) → Pattern p → remainder_of p ≡ s → ⊥))

-- the places of the bits that are flipped, 127 where there is none
unfoldable pub places_of : Mend → ℕ × ℕ
places_of Clean = (127, 127)
places_of (One i) = (i, 127)
places_of (Two i j) = (i, j)
places_of Flagged = (127, 127)

-- 1 for the place of a bit, else 0
abbrev pub count_of : ℕ → ℕ
count_of i = cond (ltb i 126) 1 0

-- the pattern at two places in rising order
unfoldable pub pattern_rising : ℕ × ℕ → Mend
pattern_rising p = cond (ltb p.1 126) (Two p.0 p.1) (cond (ltb p.0 126) (One p.0) Clean)

-- the pattern at two places in any order
unfoldable pub pattern_at : ℕ × ℕ → Mend
pattern_at p = pattern_rising (rising_of p)

-- the pattern that was found
unfoldable pub pattern_of : Option Pair → Mend
pattern_of (Some p) = pattern_at (p.first, p.second)
pattern_of None = Flagged

-- word i of a row of numbers above whose words nothing stands
unfoldable pub plain_at : List ℕ → ℕ → ℕ
plain_at s i = get_or s (2 * i) 0 * 2 ^ 64 + get_or s (2 * i + 1) 0

-- rest has the remainders of the n words of s
pub record HasRemainders (n : ℕ) (s rest : List ℕ) : Type 0 where
  pub remains : (i : ℕ) → i < n → get_or rest i 0 ≡ remainder 126 (plain_at s i)

-- what word i of a row is passed on as
abbrev pub passed : List ℕ → ℕ → ℕ
passed s i = mended (plain_at s i) (mend (plain_at s i))

-- and its flag byte
abbrev pub flag_at : List ℕ → ℕ → ℕ
flag_at s i = flag_of (mend (plain_at s i))

-- word i of the row s and its flag byte among flags are mended, and nothing else is changed
pub record MendedAt (i : ℕ) (s flags s' flags' : List ℕ) : Type 0 where
  pub word : s' ≡ set (set s (2 * i) (passed s i / 2 ^ 64)) (2 * i + 1) (passed s i % 2 ^ 64)
  pub flag : flags' ≡ set flags i (flag_at s i)

-- n words as they are passed on
abbrev pub mended_row : ℕ → List ℕ → List ℕ
mended_row n s = row_of n (passed s)

-- and their flag bytes
abbrev pub flags_row : ℕ → List ℕ → List ℕ
flags_row n s = tabulate n (flag_at s)
