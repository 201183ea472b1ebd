-- What the code's own functions say of whole blocks: a lane's frame and its store are 51 blocks of five bytes, and a stage moves them. No promise to a
-- caller rests on a definition here.
-- Assumes nothing.
use Rattle.std.specs.Prelude.{◌≡◌, cond, List, ◌++◌, ℕ, suc, ◌+◌, ◌*◌, ◌-◌, ◌/◌, ◌%◌, ◌<◌, eqb, ltb, length, get_or, take, drop}
use Rattle.std.specs.Int.Bits.{bit_and, bit_xor}
use Rattle.bits.specs.definitions.Bits.{bit_of}
use Rattle.lanes.specs.definitions.Permutation.{Places}
use Rattle.lanes.specs.definitions.Interleaver.{Rows, row_at}

-- rows r and r + 1 lie in a lane's store one after the other, and fill it; the other row holds nothing
pub record FillStore (R : Rows) (r : ℕ) : Type 0 where
  pub row : r < 2
  pub first : R.start r ≡ 0
  pub second : R.start (r + 1) ≡ R.depth r
  pub whole : R.depth r + R.depth (r + 1) ≡ 18
  pub other : R.depth ((r + 2) % 3) ≡ 0

-- lane p of a frame x and of its store s: the frame's 33 blocks of five bytes, with the store's 18 behind them
abbrev pub lane_of : List ℕ → List ℕ → ℕ → List ℕ
lane_of x s p = take 165 (drop (165 * p) x) ++ take 90 (drop (90 * p) s)

-- block b of a lane
abbrev pub block_of : List ℕ → ℕ → List ℕ
block_of z b = take 5 (drop (5 * b) z)

-- byte c of it
unfoldable pub block_byte : List ℕ → ℕ → ℕ → ℕ
block_byte z b c = get_or z (5 * b + c) 0

-- the block that comes out as block b: number b / 3 of row b mod 3
unfoldable pub out_from : Rows → ℕ → ℕ
out_from R b = cond (ltb (b / 3) (d)) (33 + (R.start (b % 3) + (d - suc (b / 3)))) (3 * (b / 3 - d) + b % 3)
  where
    d : ℕ
    d = R.depth (b % 3)

-- the 165 bytes of o are those of o₀, but for the blocks that come out of row r of a lane z at its first n turns
pub record TurnsOut (R : Rows) (z : List ℕ) (r n : ℕ) (o₀ o : List ℕ) : Type 0 where
  pub long : length o ≡ length o₀
  pub here : (i : ℕ) → i < 165 → i / 5 % 3 ≡ r → i / 15 < n → get_or o i 0 ≡ block_byte z (out_from R (i / 5)) (i % 5)
  pub there : (i : ℕ) → (i / 5 % 3 ≡ r → i / 15 < n → ⊥) → get_or o i 0 ≡ get_or o₀ i 0

-- the block that is kept as block j of the store
unfoldable pub kept_from : Rows → ℕ → ℕ
kept_from R j = cond (ltb q 11) (3 * (11 - suc q) + r) (33 + (R.start r + (q - 11)))
  where
    r : ℕ
    r = row_at R j

    q : ℕ
    q = j - R.start r

-- the bits of b where m has a bit, else those of a
unfoldable pub merged_byte : ℕ → ℕ → ℕ → ℕ
merged_byte a b m = bit_xor a (bit_and (bit_xor a b) m)

-- the masks of a set of places for sixteen blocks: bit k of byte i lies in symbol (8 (i mod 5) + k) / 10 of its block, and is set if that is exchanged
pub record IsMaskRow (ex : Places) (row : List ℕ) : Type 0 where
  pub bit : (i k : ℕ) → i < 80 → k < 8 → eqb (bit_of 8 (get_or row i 0) k) 1 ≡ ex ((8 * (i % 5) + k) / 10)
