-- Runs: calls one after the other from a fresh store, of sending and of receiving; and what the words of the frames sent carry.
-- Assumes nothing.
use Rattle.std.specs.Prelude.{◌≡◌, List, ℕ, suc, ◌<◌, length, replicate}
use Rattle.lanes.specs.definitions.Permutation.{Places}
use Rattle.framing.specs.definitions.Send.{Sends}
use Rattle.framing.specs.definitions.Receive.{Receives}

-- n calls of sending from a fresh store, each with whole lanes and room for a frame: the numbers answered, the frames, and the store before each call
pub record Sent (ex : Places) (n : ℕ) (lanes room : ℕ → List ℕ) (numbers : ℕ → ℕ) (frames stores : ℕ → List ℕ) : Type 0 where
  pub whole : (f : ℕ) → f < n → (length (lanes f) ≡ 5280) × (length (room f) ≡ 6144)
  pub fresh : stores 0 ≡ replicate 2880 0
  pub call : (f : ℕ) → f < n → Sends ex (lanes f) (stores f) (room f) (numbers f) (stores (suc f)) (frames f)

-- n calls of receiving from a fresh store, with the output and the flags lent to each: the numbers answered, the store before each call, and the lanes and
-- the flag bytes that it leaves
pub record Received (ex : Places) (n : ℕ) (frames outs flag_buffers : ℕ → List ℕ) (numbers : ℕ → ℕ) (stores back flag_bytes : ℕ → List ℕ) : Type 0 where
  pub fresh : stores 0 ≡ replicate 2880 0
  pub call : (f : ℕ) → f < n → Receives ex (frames f) (stores f) (outs f) (flag_buffers f) (numbers f) (stores (suc f)) (back f) (flag_bytes f)
