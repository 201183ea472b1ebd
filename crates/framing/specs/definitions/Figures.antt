-- Bench figures 1 to 12 (01, bench figures), as one table.
-- Assumes nothing.
use Rattle.std.specs.Prelude.{List, [], ◌∷◌, ℕ, suc, ◌+◌, ◌*◌, ◌/◌, replicate}
use Rattle.bits.specs.definitions.Bits.{tabulate}
use Rattle.bch.specs.definitions.Code.{parity_of}
use Rattle.lanes.specs.definitions.Permutation.{Lanes}
use Rattle.lanes.specs.definitions.Stream.{interleaved}
use Rattle.shuffle.specs.definitions.Shuffle.{place}
use Rattle.symbols.specs.definitions.Mapping.{lane_of, upper, lower, payload_at}
use Rattle.framing.specs.definitions.Places.{base}

-- a row by its number in 01: what the definitions give, and what is printed
pub record Figure : Type 0 where
  pub number : ℕ
  pub given : List ℕ
  pub printed : List ℕ

-- lanes in which every bit of block b is marked b + 1, so that fill is 0
abbrev pub marked : Lanes
marked p i = suc (i / 40)

-- the marks of output block m of lane 0, by the block rule
abbrev pub output_block : ℕ → List ℕ
output_block m = tabulate 40 (λ c. interleaved base marked 0 (40 * m + c))

-- the mark of a whole block
abbrev pub whole_block : ℕ → List ℕ
whole_block k = replicate 40 k

-- XI's lane, and the places of its upper and its lower bit, in symbol l
abbrev pub of_xI : ℕ → List ℕ
of_xI l = lane_of l 0 ∷ upper l ∷ lower l ∷ []

-- only bit i of the information is 2^(109 - i)
unfoldable pub figures : List Figure
figures =
    record { number = 1; given = parity_of 0 ∷ []; printed = 0x0000 ∷ [] }
    ∷ record { number = 2; given = parity_of 1 ∷ []; printed = 0x4EAB ∷ [] }
    ∷ record { number = 3; given = parity_of 2 ∷ []; printed = 0x9D56 ∷ [] }
    ∷ record { number = 4; given = parity_of 4 ∷ []; printed = 0x7407 ∷ [] }
    ∷ record { number = 5; given = output_block 34; printed = whole_block (16 + 1) }
    ∷ record { number = 6; given = output_block 35; printed = whole_block 0 }
    ∷ record { number = 7; given = output_block 38; printed = whole_block (2 + 1) }
    ∷ record { number = 8; given = place 31 0 ∷ []; printed = 70 ∷ [] }
    ∷ record { number = 9; given = place 16 10 ∷ []; printed = 0 ∷ [] }
    ∷ record { number = 10; given = of_xI 1; printed = 2 ∷ 3 ∷ 2 ∷ [] }
    ∷ record { number = 11; given = of_xI 63; printed = 7 ∷ 1 ∷ 0 ∷ [] }
    ∷ record { number = 12; given = payload_at 6047 ∷ []; printed = 6143 ∷ [] }
    ∷ []
