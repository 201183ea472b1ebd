-- A stream sent and received undamaged (demand 2).
-- Assumes nothing.
use Rattle.std.specs.Prelude.{◌≡◌, List, ℕ, ◌<◌, length}
use Rattle.lanes.specs.definitions.Permutation.{Places}
use Rattle.framing.specs.definitions.Stream.{Sent, Received}

-- n frames sent, and received as they were sent, into outputs and flags of the right lengths
pub record Undamaged (ex : Places) (n : ℕ) (lanes : ℕ → List ℕ) (sent_numbers numbers : ℕ → ℕ) (back flag_bytes : ℕ → List ℕ) : Type 0 where
  pub room : ℕ → List ℕ
  pub frames : ℕ → List ℕ
  pub sent_stores : ℕ → List ℕ
  pub sent : Sent ex n lanes room sent_numbers frames sent_stores
  pub outs : ℕ → List ℕ
  pub flag_buffers : ℕ → List ℕ
  pub lent : (f : ℕ) → f < n → (length (outs f) ≡ 5280) × (length (flag_buffers f) ≡ 384)
  pub stores : ℕ → List ℕ
  pub received : Received ex n frames outs flag_buffers numbers stores back flag_bytes
