-- What is sent of a word (01, BCH; demand 2); `proofs/Theorems` proves it.
-- Assumes nothing.
use Rattle.std.specs.Prelude.{◌≡◌, ℕ, ◌/◌, ◌^◌, ◌<◌}
use Rattle.bch.specs.definitions.Code.{CodeWord, coded}

-- what is sent is a code word of 126 bits that begins with the information bits, and no other code word does
abbrev pub SentIsCode : Type 0
SentIsCode =
    (m : ℕ) → m < 2 ^ 110
    → CodeWord (coded m) × (coded m < 2 ^ 126) × (coded m / 2 ^ 16 ≡ m) × ((c : ℕ) → CodeWord c → c / 2 ^ 16 ≡ m → c ≡ coded m)
