-- Demand 2, of one call of receiving: a word is flagged exactly when no code word lies within two bits of it; and what each word is passed on as.
-- `proofs/Flags` proves it.
-- Assumes nothing.
use Rattle.std.specs.Prelude.{◌≡◌, ◌↔◌, List, ℕ, ◌<◌, ◌≤◌, length, get_or}
use Rattle.bits.specs.definitions.Words.{word_at}
use Rattle.bch.specs.definitions.Code.{CodeWord, distance}
use Rattle.lanes.specs.definitions.Permutation.{Places}
use Rattle.lanes.specs.definitions.Interleaver.{deinterleaved_frame, deinterleaved_store}
use Rattle.lane_words.specs.definitions.LaneWords.{word_lanes}
use Rattle.symbols.specs.definitions.Frame.{arrived}
use Rattle.framing.specs.definitions.Receive.{Receives}

-- where a call of receiving answers 0 it leaves 384 flag bytes, and there are the words that it passes on: of their information the lanes that come out are
-- made, and the store that is kept. The flag of a word is 3 exactly when no code word lies within two bits of the word that arrived, which then is passed on as
-- it arrived; a word with a code word within two bits is passed on as that code word, and its flag is how many bits away it lies
abbrev pub FlagsExactly : Type 0
FlagsExactly =
    (ex : Places) (f s o g : List ℕ) (r : ℕ) (s' o' g' : List ℕ) → Receives ex f s o g r s' o' g' → r ≡ 0
    → (length g' ≡ 384)
    × (words : List ℕ) × (o' ≡ deinterleaved_frame ex (word_lanes words) s) × (s' ≡ deinterleaved_store (word_lanes words) s)
    × ((i : ℕ) → i < 384
    → ((get_or g' i 0 ≡ 3) ↔ ((c : ℕ) → CodeWord c → 2 < distance (arrived f i) c))
    × (get_or g' i 0 ≡ 3 → word_at words i ≡ arrived f i)
    × ((c : ℕ) → CodeWord c → distance (arrived f i) c ≤ 2 → (word_at words i ≡ c) × (get_or g' i 0 ≡ distance (arrived f i) c)))
