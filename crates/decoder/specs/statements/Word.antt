-- What a word decodes to, and what the calls over words and frames answer (01, BCH; demands 2 and 3); and the smallest distance. `proofs/Theorems` proves each.
-- Assumes nothing.
use Rattle.std.specs.Prelude.{◌≡◌, ◌≢◌, ◌↔◌, ℕ, ◌^◌, ◌<◌, ◌≤◌, List, get_or}
use Rattle.std.specs.Int.Bits.{bit_xor}
use Rattle.bits.specs.definitions.Words.{word_of, word_at}
use Rattle.bch.specs.definitions.Code.{CodeWord, distance, coded}
use Rattle.decoder.specs.definitions.Mend.{mend, mended, flag_of}
use Rattle.bch.specs.definitions.Word.{information_of, coded_frame}
use Rattle.decoder.specs.definitions.Word.{decoded, mended_frame, flags_of}

-- demand 2: a code word with at most two flipped bits becomes the word sent, and the flag counts the bits
abbrev pub MendsTwo : Type 0
MendsTwo = (c w : ℕ) → CodeWord c → w < 2 ^ 126 → distance w c ≤ 2 → (mended w (mend w) ≡ c) × (flag_of (mend w) ≡ distance w c)

-- demand 2: a word is flagged exactly when no code word lies within two bits of it
abbrev pub FlaggedExactly : Type 0
FlaggedExactly = (w : ℕ) → w < 2 ^ 126 → (flag_of (mend w) ≡ 3) ↔ ((c : ℕ) → CodeWord c → 2 < distance w c)

-- a word that is not flagged becomes a code word, as many bits away as its flag says
abbrev pub MendedIsCode : Type 0
MendedIsCode = (w : ℕ) → w < 2 ^ 126 → flag_of (mend w) ≢ 3 → CodeWord (mended w (mend w)) × (distance w (mended w (mend w)) ≡ flag_of (mend w))

-- a flagged word passes on as received
abbrev pub FlaggedPasses : Type 0
FlaggedPasses = (w : ℕ) → flag_of (mend w) ≡ 3 → mended w (mend w) ≡ w

-- demand 3: so at most two flips leave nothing wrong
abbrev pub TwoVanish : Type 0
TwoVanish = (e : ℕ) → e < 2 ^ 126 → distance e 0 ≤ 2 → mended e (mend e) ≡ 0

-- the smallest distance is 6: two code words differ in six places or more, and two in six
abbrev pub SmallestDistance : Type 0
SmallestDistance =
    ((c d : ℕ) → CodeWord c → CodeWord d → c ≢ d → 6 ≤ distance c d)
    × ((c : ℕ) × (d : ℕ) × CodeWord c × CodeWord d × (distance c d ≡ 6))

-- any three flips of a code word are flagged
abbrev pub ThreeFlagged : Type 0
ThreeFlagged = (c w : ℕ) → CodeWord c → w < 2 ^ 126 → distance w c ≡ 3 → flag_of (mend w) ≡ 3

-- demand 3: which bits are mended, and so the flag and every change, depend on the flips alone and not on the code word
abbrev pub FlipsAlone : Type 0
FlipsAlone =
    (c e : ℕ) → CodeWord c
    → (mend (bit_xor c e) ≡ mend e) × (mended (bit_xor c e) (mend (bit_xor c e)) ≡ bit_xor c (mended e (mend e)))

-- What a call answers is what the statements above speak of: any two numbers of 64 bits are a word, and the two numbers of what it decodes to are that word
abbrev pub WordCalls : Type 0
WordCalls =
    (hi lo : ℕ) → lo < 2 ^ 64
    → (word_of hi lo < 2 ^ 126) × (information_of (word_of hi lo) < 2 ^ 110)
    × ((decoded (word_of hi lo)).word.hi < 2 ^ 62) × ((decoded (word_of hi lo)).word.lo < 2 ^ 64)
    × (word_of (decoded (word_of hi lo)).word.hi (decoded (word_of hi lo)).word.lo ≡ mended (word_of hi lo) (mend (word_of hi lo)))

-- and so it is with each word of a frame and its flag byte
abbrev pub FrameCalls : Type 0
FrameCalls =
    (s : List ℕ) → ((j : ℕ) → get_or s j 0 < 2 ^ 64) → (i : ℕ) → i < 384
    → (word_at s i < 2 ^ 126)
    × (word_at (coded_frame s) i ≡ coded (information_of (word_at s i)))
    × (word_at (mended_frame s) i ≡ mended (word_at s i) (mend (word_at s i)))
    × (get_or (flags_of s) i 0 ≡ flag_of (mend (word_at s i)))
