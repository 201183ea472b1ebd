-- One call of receiving: the number that it answers, and the store, the output and the flags that it leaves, for every input (01, refusal list and
-- stage rules).
-- Assumes nothing.
use Rattle.std.specs.Prelude.{◌≡◌, cond, List, ℕ}
use Rattle.lanes.specs.definitions.Permutation.{Places}
use Rattle.lanes.specs.definitions.Interleaver.{deinterleaved_frame, deinterleaved_store}
use Rattle.lane_words.specs.definitions.LaneWords.{word_lanes}
use Rattle.decoder.specs.definitions.Word.{mended_frame, flags_of}
use Rattle.symbols.specs.definitions.Frame.{words_of}
use Rattle.pilots.specs.definitions.Pilots.{locks}
use Rattle.bits.specs.definitions.Call.{unless, after}

-- the words that a frame brings: what each of them decodes to
abbrev pub received_words : List ℕ → List ℕ
received_words f = mended_frame (words_of f)

-- the interleaved lanes that a frame brings: the information of these
unfoldable pub brought_lanes : List ℕ → List ℕ
brought_lanes f = word_lanes (received_words f)

-- the lanes received: those deinterleaved and permuted back
abbrev pub received_lanes : Places → List ℕ → List ℕ → List ℕ
received_lanes ex f s = deinterleaved_frame ex (brought_lanes f) s

-- the store that is then kept
abbrev pub received_store : List ℕ → List ℕ → List ℕ
received_store f s = deinterleaved_store (brought_lanes f) s

-- the flag bytes, that of word k of lane p at place 32 k + p
unfoldable pub received_flags : List ℕ → List ℕ
received_flags f = flags_of (words_of f)

-- 1, then 5, no lock; 0 is done
unfoldable pub words_number : List ℕ → ℕ
words_number f = unless 6144 f 1 (cond (locks f 0) 0 5)

-- a call that receives the words alone, with the symbols f, words w and flags g to be written: the number answered, the words and the flags at exit
pub record ReceivesWords (f w g : List ℕ) (r : ℕ) (w' g' : List ℕ) : Type 0 where
  pub number : r ≡ words_number f
  pub words : w' ≡ after (words_number f) (received_words f) w
  pub flags : g' ≡ after (words_number f) (received_flags f) g

-- 1, 2, 3, 4, then 5, no lock, lowest first; 0 is done
unfoldable pub receive_number : List ℕ → List ℕ → List ℕ → List ℕ → ℕ
receive_number f s o g = unless 6144 f 1 (unless 2880 s 2 (unless 5280 o 3 (unless 384 g 4 (cond (locks f 0) 0 5))))

-- a call of receiving with the symbols f, the store s, the output o and the flags g: the number answered, the store, the output and the flags at exit
pub record Receives (ex : Places) (f s o g : List ℕ) (r : ℕ) (s' o' g' : List ℕ) : Type 0 where
  pub number : r ≡ receive_number f s o g
  pub store : s' ≡ after (receive_number f s o g) (received_store f s) s
  pub output : o' ≡ after (receive_number f s o g) (received_lanes ex f s) o
  pub flags : g' ≡ after (receive_number f s o g) (received_flags f) g
