-- A run of sending, from its calls' outcomes: `BlockRule`.
-- Assumes nothing.
use mathlib.Core.Path.{◌≡◌, refl, sym, ap, ap₂, ◌∙◌, subst}
use mathlib.Core.Bool.{true}
use mathlib.Core.List.{List}
use Prim.Native.Nat.{ℕ, zero, suc, ◌+◌, ◌*◌, ◌/◌, ◌%◌, ◌^◌, ◌<◌}
use native.Mathlib.Omega.{arith}
use lib.ListN.{length, get_or, length-replicate}
use Rattle.bits.specs.definitions.Bits.{bit_of, bit_at}
use Rattle.bits.specs.definitions.Words.{word_at}
use Rattle.bits.proofs.Words.{row_at_lem}
use Rattle.bch.specs.definitions.Code.{CodeWord, coded}
use Rattle.bch.specs.definitions.Word.{information_of, coded_frame}
use Rattle.bch.proofs.Theorems.{sent_is_code}
use Rattle.lanes.specs.definitions.Permutation.{Places}
use Rattle.lanes.specs.definitions.Interleaver.{interleaved_frame, interleaved_store}
use Rattle.lane_words.specs.definitions.LaneWords.{information_at, lane_words}
use Rattle.lanes.specs.definitions.Stream.{stream_bit, interleaved}
use Rattle.lanes.specs.private.Stream.{Interleaves}
use Rattle.lane_words.proofs.LaneWords.{bit_information, information_lt, information_bit, word_information}
use Rattle.lanes.proofs.Stream.{interleaved_stream}
use Rattle.symbols.specs.definitions.Frame.{arrived}
use Rattle.pilots.specs.definitions.Table5.{pilots}
use Rattle.pilots.specs.definitions.Pilots.{locks}
use Rattle.symbols.proofs.Return.{arrived_frame, frame_pilot, frame_locks}
use Rattle.framing.specs.definitions.Send.{sent_frame}
use Rattle.framing.specs.definitions.Stream.{Sent}
use Rattle.framing.specs.statements.Stream.{BlockRule}
use Rattle.framing.proofs.Sending.{store_length, done}

-- ---- one frame: its words are the coded information of the interleaved lanes

module _ (ex : Places) (a s : List ℕ) (i : ℕ) (h : i < 384) where
  pub sent_word : arrived (sent_frame ex a s) i ≡ coded (information_at (interleaved_frame ex a s) i)
  unfolding sent_frame coded_frame
  sent_word =
      let v = interleaved_frame ex a s in
      let e : information_of (word_at (lane_words v) i) ≡ information_at v i = word_information v i h in
      let small : coded (information_of (word_at (lane_words v) i)) < 2 ^ 126 = subst (λ (m : ℕ). coded m < 2 ^ 126) (sym e)
      (sent_is_code (information_at v i) (information_lt v i)).1 in
      let at : word_at (coded_frame (lane_words v)) i
      ≡ coded (information_of (word_at (lane_words v) i)) = row_at_lem 384 (λ i. coded (information_of (word_at (lane_words v) i))) i h small in
      arrived_frame (coded_frame (lane_words v)) i h (subst (λ (w : ℕ). w < 2 ^ 126) (sym at) small) ∙ at ∙ ap coded e

  pub sent_code : CodeWord (arrived (sent_frame ex a s) i)
  sent_code = subst CodeWord (sym sent_word) (sent_is_code (information_at (interleaved_frame ex a s) i) (information_lt (interleaved_frame ex a s) i)).0

  pub sent_bit_lem : (q : ℕ) → q < 110 → bit_of 126 (arrived (sent_frame ex a s) i) q ≡ bit_of 110 (information_at (interleaved_frame ex a s) i) q
  sent_bit_lem q l =
      ap (λ (w : ℕ). bit_of 126 w q) sent_word ∙ bit_information (coded (information_at (interleaved_frame ex a s) i)) q l
      ∙ ap (λ (m : ℕ). bit_of 110 m q) (sent_is_code (information_at (interleaved_frame ex a s) i) (information_lt (interleaved_frame ex a s) i)).2

-- and its pilots are the pilots, so that it locks
pub sent_pilot : (ex : Places) (a s : List ℕ) (k : ℕ) → k < 96 → get_or (sent_frame ex a s) (64 * k) 0 ≡ get_or pilots k 0
unfolding sent_frame
sent_pilot ex a s k h = frame_pilot (coded_frame (lane_words (interleaved_frame ex a s))) k h

pub sent_locks : (ex : Places) (a s : List ℕ) → locks (sent_frame ex a s) 0 ≡ true
unfolding sent_frame
sent_locks ex a s = frame_locks (coded_frame (lane_words (interleaved_frame ex a s)))

-- ---- a run

module _ (ex : Places) (n : ℕ) (lanes room : ℕ → List ℕ) (numbers : ℕ → ℕ) (frames stores : ℕ → List ℕ) (S : Sent ex n lanes room numbers frames stores) where
  -- the store before call f is whole, so call f is done
  Done : ℕ → Type 0
  Done f = (numbers f ≡ 0) × (stores (suc f) ≡ interleaved_store ex (lanes f) (stores f)) × (frames f ≡ sent_frame ex (lanes f) (stores f))

  from_length : (f : ℕ) → f < n → length (stores f) ≡ 2880 → Done f
  unfolding Done
  from_length f h e = done ex (lanes f) (stores f) (room f) (numbers f) (stores (suc f)) (frames f) (S.whole f h).0 e (S.whole f h).1 (S.call f h)

  long : (f : ℕ) → f < n → length (stores f) ≡ 2880
  unfolding Done
  long zero h = ap length S.fresh ∙ length-replicate {A = ℕ} 2880 0
  long (suc f) h = let l : f < n = omega arith in ap length (from_length f l (long f l)).1 ∙ store_length ex (lanes f) (stores f)

  number : (f : ℕ) → f < n → numbers f ≡ 0
  unfolding Done
  number f h = (from_length f h (long f h)).0

  pub sent_next : (f : ℕ) → f < n → stores (suc f) ≡ interleaved_store ex (lanes f) (stores f)
  unfolding Done
  sent_next f h = (from_length f h (long f h)).1

  pub frame_sent : (f : ℕ) → f < n → frames f ≡ sent_frame ex (lanes f) (stores f)
  unfolding Done
  frame_sent f h = (from_length f h (long f h)).2

  interleaves : Interleaves ex n lanes (λ f. interleaved_frame ex (lanes f) (stores f)) stores
  interleaves = record { fresh = S.fresh; out = λ f h. refl; next = sent_next }

  carried : (p w q : ℕ) → p < 32 → w < 12 * n → q < 110
      → bit_of 126 (arrived (frames (w / 12)) (32 * (w % 12) + p)) q ≡ interleaved ex (stream_bit lanes) p (110 * w + q)
  unfolding stream_bit
  carried p w q hp hw hq =
      let f = w / 12 in
      let l : f < n = omega arith in
      let i = 110 * w + q in
      let fi : f ≡ i / 1320 = omega arith in
      let b : 1320 * p + 110 * (w % 12) + q ≡ 1320 * p + i % 1320 = omega arith in
      ap (λ (x : List ℕ). bit_of 126 (arrived x (32 * (w % 12) + p)) q) (frame_sent f l)
      ∙ sent_bit_lem ex (lanes f) (stores f) (32 * (w % 12) + p) (omega arith) q hq
      ∙ information_bit (interleaved_frame ex (lanes f) (stores f)) (w % 12) p q hp hq
      ∙ ap₂ (λ (g j : ℕ). bit_at (interleaved_frame ex (lanes g) (stores g)) j) fi b
      ∙ interleaved_stream ex n lanes (λ f. interleaved_frame ex (lanes f) (stores f)) stores p i hp (omega arith) interleaves

pub block_rule : BlockRule
block_rule ex n lanes room numbers frames stores S = (
  number ex n lanes room numbers frames stores S,
  λ f i h l. subst (λ (x : List ℕ). CodeWord (arrived x i)) (sym (frame_sent ex n lanes room numbers frames stores S f h))
      (sent_code ex (lanes f) (stores f) i l),
  carried ex n lanes room numbers frames stores S,
)
