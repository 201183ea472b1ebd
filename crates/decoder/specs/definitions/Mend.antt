-- What a word decodes to (01, BCH, "Receiving"): the first pattern of at most two bits that, flipped, makes it a code word; where there is none the
-- word is flagged and passes on as received.
-- Assumes nothing.
use Rattle.std.specs.Prelude.{Bool, ℕ, suc, ◌+◌, ◌-◌, eqb}
use mathlib.Core.List.{List, ◌∷◌, ◌++◌, flatten}
use Rattle.bits.specs.definitions.Bits.{tabulate, first}
use Rattle.bch.specs.definitions.Code.{remainder, flipped}
use Rattle.decoder.specs.declared.Mend.{Mend}
use Rattle.decoder.specs.declared.Mend.TheVariants.{Clean, One, Two, Flagged}

-- two bits, i before j, by the place of the first and then of the second
unfoldable pub pairs : List Mend
pairs = flatten (tabulate 126 (λ i. tabulate (125 - i) (λ k. Two i (suc i + k))))

-- the patterns in the order in which they are tried: no bit; one bit, the lower place first; two bits
unfoldable pub patterns : List Mend
patterns = Clean ∷ (tabulate 126 One ++ pairs)

-- the word with the bits of a pattern flipped; a flagged word passes on as it is
unfoldable pub mended : ℕ → Mend → ℕ
mended w Clean = w
mended w (One i) = flipped i w
mended w (Two i j) = flipped j (flipped i w)
mended w Flagged = w

-- the test for a code word: it leaves no remainder
abbrev pub is_code : ℕ → Bool
is_code w = eqb (remainder 126 w) 0

-- the first pattern that makes w a code word
unfoldable pub mend : ℕ → Mend
mend w = first (λ m. is_code (mended w m)) patterns Flagged

-- the flag byte (01, one frame in numbers): 0, 1 or 2 bits mended, 3 flagged
unfoldable pub flag_of : Mend → ℕ
flag_of Clean = 0
flag_of (One i) = 1
flag_of (Two i j) = 2
flag_of Flagged = 3
