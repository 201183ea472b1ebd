-- A trial of demand 3: lanes sent from a fresh store, bits of the sent frames flipped, and what a fresh receiver makes of the frames.
-- Assumes nothing.
use Rattle.std.specs.Prelude.{◌≡◌, not, List, ℕ, ◌+◌, ◌*◌, ◌/◌, ◌%◌, ◌<◌, eqb, get_or, ◌≢◌}
use Rattle.std.specs.Int.Bits.{bit_xor}
use Rattle.bits.specs.definitions.Bits.{tabulate, count}
use Rattle.bch.specs.definitions.Code.{distance}
use Rattle.lanes.specs.definitions.Permutation.{Places}
use Rattle.symbols.specs.definitions.Frame.{arrived}
use Rattle.framing.specs.definitions.Stream.{Sent, Received}
use Rattle.lanes.specs.definitions.Stream.{stream_bit}

-- a frame with bits flipped, those that are set in the flips, byte by byte; flips above 255 would make bytes that no capture has, and are not ruled out
unfoldable pub hit : List ℕ → List ℕ → List ℕ
hit frame flips = tabulate 6144 (λ t. bit_xor (get_or frame t 0) (get_or flips t 0))

-- n frames of whole lanes are sent, each with room for its frame; hit by the flips, and received with the output and the flags lent to each call, of any
-- lengths; and received undamaged, with the same
pub record Trial (ex : Places) (n : ℕ) (flips lanes room outs flag_buffers : ℕ → List ℕ) : Type 0 where
  pub sent_numbers : ℕ → ℕ
  pub frames : ℕ → List ℕ
  pub sent_stores : ℕ → List ℕ
  pub sent : Sent ex n lanes room sent_numbers frames sent_stores
  pub numbers : ℕ → ℕ
  pub stores : ℕ → List ℕ
  pub back : ℕ → List ℕ
  pub flag_bytes : ℕ → List ℕ
  pub received : Received ex n (λ f. hit (frames f) (flips f)) outs flag_buffers numbers stores back flag_bytes
  pub clean_numbers : ℕ → ℕ
  pub clean_stores : ℕ → List ℕ
  pub clean_back : ℕ → List ℕ
  pub clean_flags : ℕ → List ℕ
  pub undamaged : Received ex n frames outs flag_buffers clean_numbers clean_stores clean_back clean_flags

-- no frame was refused
abbrev pub Accepted : {ex : Places} {n : ℕ} {flips lanes room outs flag_buffers : ℕ → List ℕ} → Trial ex n flips lanes room outs flag_buffers → Type 0
Accepted {n = n} t = (f : ℕ) → f < n → t.numbers f ≡ 0

-- by how many flips word w of lane p, counted over the stream, is hit: in so many bits the word that the flips make differs from 0
unfoldable pub flips_in : (ℕ → List ℕ) → ℕ → ℕ → ℕ
flips_in flips p w = distance (arrived (flips (w / 12)) (32 * (w % 12) + p)) 0

-- how many of the 96 pilot bytes are hit
unfoldable pub hit_pilots : List ℕ → ℕ
hit_pilots flips = count (λ k. not (eqb (get_or flips (64 * k) 0) 0)) 96

-- bit i of lane p has come back wrong: it differs from what receiving the undamaged frames returns at its place
abbrev pub Wrong : {ex : Places} {n : ℕ} {flips lanes room outs flag_buffers : ℕ → List ℕ} → Trial ex n flips lanes room outs flag_buffers → ℕ → ℕ → Type 0
Wrong t p i = stream_bit t.back p i ≢ stream_bit t.clean_back p i
