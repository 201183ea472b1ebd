-- What the two stores hold after a stream (01, interleaver, and one frame in numbers): 18 blocks of 40 bits a lane each, newest first within a row.
-- Assumes nothing.
use Rattle.std.specs.Prelude.{◌≡◌, List, ℕ, ◌+◌, ◌*◌, ◌<◌, length}
use Rattle.lanes.specs.definitions.Permutation.{Places, permuted}
use Rattle.lanes.specs.definitions.Interleaver.{stored}
use Rattle.lanes.specs.definitions.Stream.{stream_bit, delayed}

-- bit c of block 33 n - b of lane p, permuted: the block that came b blocks before the end of a stream of n frames; fill, 0, where that is before the stream
abbrev pub before_end : Places → ℕ → (ℕ → List ℕ) → (p b c : ℕ) → ℕ
before_end ex n lanes p b c = delayed (40 * b) (permuted ex (stream_bit lanes) p) (40 * (33 * n) + c)

-- the sender's store and the receiver's store hold the last 36 blocks of each lane of n frames, each block once
pub record LastBlocks (ex : Places) (n : ℕ) (lanes : ℕ → List ℕ) (sent_store store : List ℕ) : Type 0 where
  pub whole : (length sent_store ≡ 2880) × (length store ≡ 2880)
  -- the sender's row 1, its blocks 0 to 5: those that came 2, 5, .., 17 before the end
  pub sender_row1 : (p j c : ℕ) → p < 32 → j < 6 → c < 40 → stored sent_store p (40 * j + c) ≡ before_end ex n lanes p (3 * j + 2) c
  -- the sender's row 2, its blocks 6 to 17: 1, 4, .., 34
  pub sender_row2 : (p j c : ℕ) → p < 32 → j < 12 → c < 40 → stored sent_store p (40 * (6 + j) + c) ≡ before_end ex n lanes p (3 * j + 1) c
  -- the receiver's row 0, its blocks 0 to 11: 3, 6, .., 36
  pub receiver_row0 : (p j c : ℕ) → p < 32 → j < 12 → c < 40 → stored store p (40 * j + c) ≡ before_end ex n lanes p (3 * j + 3) c
  -- the receiver's row 1, its blocks 12 to 17: 20, 23, .., 35
  pub receiver_row1 : (p j c : ℕ) → p < 32 → j < 6 → c < 40 → stored store p (40 * (12 + j) + c) ≡ before_end ex n lanes p (3 * j + 20) c
