-- What the laws over a stream speak of beside the block rule: the way back, and runs of frames through the interleaver. No promise to a caller and no
-- statement rests on a definition here.
-- Assumes nothing.
use Rattle.std.specs.Prelude.{◌≡◌, List, ℕ, suc, ◌*◌, ◌-◌, ◌/◌, ◌%◌, ◌<◌, replicate}
use Rattle.lanes.specs.definitions.Permutation.{Lanes, Places, permuted}
use Rattle.lanes.specs.definitions.Interleaver.{interleaved_frame, interleaved_store, deinterleaved_frame, deinterleaved_store}
use Rattle.lanes.specs.definitions.Stream.{delayed}

-- the way back: the rows hold 12, 6 and 0 blocks
unfoldable pub deinterleaved : Places → Lanes → Lanes
deinterleaved ex y = permuted ex (λ p i. delayed (40 * (18 * (2 - i / 40 % 3))) (y p) i)

-- n frames interleaved one after the other, from a fresh store: the frames in and out, and the store before each
pub record Interleaves (ex : Places) (n : ℕ) (ins outs stores : ℕ → List ℕ) : Type 0 where
  pub fresh : stores 0 ≡ replicate 2880 0
  pub out : (f : ℕ) → f < n → outs f ≡ interleaved_frame ex (ins f) (stores f)
  pub next : (f : ℕ) → f < n → stores (suc f) ≡ interleaved_store ex (ins f) (stores f)

-- and deinterleaved
pub record Deinterleaves (ex : Places) (n : ℕ) (ins outs stores : ℕ → List ℕ) : Type 0 where
  pub fresh : stores 0 ≡ replicate 2880 0
  pub out : (f : ℕ) → f < n → outs f ≡ deinterleaved_frame ex (ins f) (stores f)
  pub next : (f : ℕ) → f < n → stores (suc f) ≡ deinterleaved_store (ins f) (stores f)
