-- Where symbols stand in a frame (01, pilots), and that words and frames come back from one another (01, mapping); `proofs/Return` proves each.
-- Assumes nothing.
use Rattle.std.specs.Prelude.{◌≡◌, List, ℕ, ◌+◌, ◌*◌, ◌^◌, ◌<◌, length, get_or}
use Rattle.bits.specs.definitions.Bits.{number, AllBytes}
use Rattle.bits.specs.definitions.Words.{word_at, row_of}
use Rattle.pilots.specs.definitions.Table5.{pilots}
use Rattle.symbols.specs.definitions.Mapping.{payload_at}
use Rattle.symbols.specs.definitions.Frame.{carried_bit, frame_of, words_of}

-- of the 6,144 symbols of a frame a pilot is the first of each 64, and symbol l of word k of all lanes is payload symbol 504 k + l
abbrev pub FramePlaces : Type 0
FramePlaces =
    (s : List ℕ)
    → (length (frame_of s) ≡ 6144)
    × ((k : ℕ) → k < 96 → get_or (frame_of s) (64 * k) 0 ≡ get_or pilots k 0)
    × ((k l : ℕ) → k < 12 → l < 504 → get_or (frame_of s) (payload_at (504 * k + l)) 0 ≡ number 8 (carried_bit s k l))

-- the words of the frame of a row of numbers of 64 bits are the row's words, and the row itself where nothing stands above its words
abbrev pub WordsBack : Type 0
WordsBack =
    (s : List ℕ) → ((j : ℕ) → get_or s j 0 < 2 ^ 64)
    → (words_of (frame_of s) ≡ row_of 384 (word_at s))
    × (length s ≡ 768 → ((i : ℕ) → i < 384 → get_or s (2 * i) 0 < 2 ^ 62) → words_of (frame_of s) ≡ s)

-- the frame of the words of any bytes has their payload symbols, whatever stands where the pilots do; a frame with the right pilots is the frame of its words
abbrev pub FrameBack : Type 0
FrameBack =
    (f : List ℕ) → AllBytes f
    → ((m : ℕ) → m < 6048 → get_or (frame_of (words_of f)) (payload_at m) 0 ≡ get_or f (payload_at m) 0)
    × (length f ≡ 6144 → ((k : ℕ) → k < 96 → get_or f (64 * k) 0 ≡ get_or pilots k 0) → frame_of (words_of f) ≡ f)
