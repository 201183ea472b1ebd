-- The convolutional interleaver (01, interleaver; 000, 5.2), one frame at a time: 33 blocks of 40 bits a lane, three rows, block b in row
-- b mod 3, so eleven blocks of each row in a frame. A store keeps each row's last blocks, newest first.
-- Assumes nothing.
use Rattle.std.specs.Prelude.{◌≡◌, Bool, cond, ◌&&◌, List, ℕ, suc, ◌+◌, ◌*◌, ◌-◌, ◌/◌, ◌%◌, eqb, ltb, length}
use Rattle.bits.specs.definitions.Bits.{bit_at, bytes}
use Rattle.lanes.specs.definitions.Permutation.{Lanes, Places, permuted, lanes_of, lane_bytes}

-- how deep each row is, and where it begins in a lane's store, in blocks
pub record Rows : Type 0 where
  pub depth : ℕ → ℕ
  pub start : ℕ → ℕ

-- the sender's rows 0, 1, 2 hold 0, 6, 12 blocks; its store has row 1, then row 2
abbrev pub sender : Rows
sender = record { depth = λ r. 6 * r; start = λ r. 6 * (r - 1) }

-- the receiver's rows 0, 1, 2 hold 12, 6, 0 blocks; its store has row 0, then row 1
abbrev pub receiver : Rows
receiver = record { depth = λ r. 12 - 6 * r; start = λ r. 12 * r }

-- bit i of lane p of a store of 32 lanes of 90 bytes
abbrev pub stored : List ℕ → Lanes
stored s p i = bit_at s (720 * p + i)

module _ (R : Rows) (s : List ℕ) (x : Lanes) where
  -- bit c of the block that entered row r as number k of this frame
  abbrev pub entered : ℕ → ℕ → ℕ → ℕ → ℕ
  entered p r k c = x p (40 * (3 * k + r) + c)

  -- bit c of the block that stands at place j of row r in the store, newest first
  abbrev pub kept : ℕ → ℕ → ℕ → ℕ → ℕ
  kept p r j c = stored s p (40 * (R.start r + j) + c)

  -- out comes, of row r, the block that entered as many blocks of the row before as the row is deep
  unfoldable pub rows_out : Lanes
  rows_out p i = out (i / 40 % 3) (i / 40 / 3) (i % 40)
    where
      out : ℕ → ℕ → ℕ → ℕ
      out r k c = cond (ltb k (R.depth r)) (kept p r (R.depth r - suc k) c) (entered p r (k - R.depth r) c)

  -- what row r keeps at place j, newest first: the last of this frame's eleven, and behind them what was there
  abbrev pub kept_next : ℕ → ℕ → ℕ → ℕ → ℕ
  kept_next p r j c = cond (ltb j 11) (entered p r (11 - suc j) c) (kept p r (j - 11) c)

-- the row in which block b of a lane's store lies, the rows lying there in rising order
abbrev pub row_at : Rows → ℕ → ℕ
row_at R b = cond (ltb b (R.start 1)) 0 (cond (ltb b (R.start 1 + R.depth 1)) 1 2)

-- the store after the frame: bit i of lane p
unfoldable pub store_bit : Rows → List ℕ → Lanes → Lanes
store_bit R s x p i = kept_next R s x p (row_at R (i / 40)) (i / 40 - R.start (row_at R (i / 40))) (i % 40)

-- its bytes, 90 a lane
unfoldable pub store_next : Rows → List ℕ → Lanes → List ℕ
store_next R s x = bytes 2880 (λ i. store_bit R s x (i / 720) (i % 720))

-- a frame's lanes permuted and interleaved
unfoldable pub interleaved_frame : Places → List ℕ → List ℕ → List ℕ
interleaved_frame ex a s = lane_bytes (rows_out sender s (permuted ex (lanes_of a)))

-- the store that is then kept
unfoldable pub interleaved_store : Places → List ℕ → List ℕ → List ℕ
interleaved_store ex a s = store_next sender s (permuted ex (lanes_of a))

-- the way back: a frame's lanes deinterleaved and permuted
unfoldable pub deinterleaved_frame : Places → List ℕ → List ℕ → List ℕ
deinterleaved_frame ex a s = lane_bytes (permuted ex (rows_out receiver s (lanes_of a)))

-- the store that is then kept
unfoldable pub deinterleaved_store : List ℕ → List ℕ → List ℕ
deinterleaved_store a s = store_next receiver s (lanes_of a)

-- the number that a call answers which deinterleaves with the store s and the lanes o to be written: 2 where the store is not as long as it must be, else 3
-- where the lanes are not, else 0 (01, refusal list)
abbrev pub deinterleave_answer : List ℕ → List ℕ → ℕ
deinterleave_answer s o = cond (eqb (length s) 2880) (cond (eqb (length o) 5280) 0 3) 2

-- a call that deinterleaves the lanes a, with the store s and the lanes o to be written: whether both are as long as they must be, and both at exit
pub record DeinterleavesFrame (ex : Places) (a s o : List ℕ) (r : Bool) (s' o' : List ℕ) : Type 0 where
  pub done : r ≡ (eqb (length s) 2880 && eqb (length o) 5280)
  pub store : s' ≡ cond r (deinterleaved_store a s) s
  pub output : o' ≡ cond r (deinterleaved_frame ex a s) o
