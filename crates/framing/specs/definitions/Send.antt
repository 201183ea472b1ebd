-- One call of sending: the number that it answers, and the store and the output that it leaves, for every input (01, refusal list and stage rules).
-- Assumes nothing.
use Rattle.std.specs.Prelude.{◌≡◌, List, ℕ}
use Rattle.lanes.specs.definitions.Permutation.{Places}
use Rattle.lanes.specs.definitions.Interleaver.{interleaved_frame, interleaved_store}
use Rattle.lane_words.specs.definitions.LaneWords.{lane_words}
use Rattle.bch.specs.definitions.Word.{coded_frame}
use Rattle.symbols.specs.definitions.Frame.{frame_of}
use Rattle.bits.specs.definitions.Call.{unless, after}

-- the frame sent: the lanes permuted and interleaved, their words with parity, shuffled, mapped and set among the pilots
unfoldable pub sent_frame : Places → List ℕ → List ℕ → List ℕ
sent_frame ex a s = frame_of (coded_frame (lane_words (interleaved_frame ex a s)))

-- 1, 2, 3, lowest first; 0 is done
unfoldable pub send_number : List ℕ → List ℕ → List ℕ → ℕ
send_number a s o = unless 5280 a 1 (unless 2880 s 2 (unless 6144 o 3 0))

-- a call of sending with the lanes a, the store s and the output o: the number answered, the store and the output at exit
pub record Sends (ex : Places) (a s o : List ℕ) (r : ℕ) (s' o' : List ℕ) : Type 0 where
  pub number : r ≡ send_number a s o
  pub store : s' ≡ after (send_number a s o) (interleaved_store ex a s) s
  pub output : o' ≡ after (send_number a s o) (sent_frame ex a s) o
