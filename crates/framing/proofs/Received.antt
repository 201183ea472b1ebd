-- A run of receiving, from its calls' outcomes: its stores are whole, and what comes back if no frame is refused.
-- Assumes nothing.
use mathlib.Core.Path.{◌≡◌, sym, ap, ap₂, ◌∙◌, subst}
use mathlib.Core.Bool.{Bool, true, false, cond}
use mathlib.Core.List.{List}
use Prim.Native.Nat.{ℕ, zero, suc, ◌+◌, ◌*◌, ◌/◌, ◌%◌, ◌^◌, ◌<◌, ◌≤◌}
use native.Mathlib.Omega.{arith}
use lib.Dec.{eqb}
use lib.ListN.{length, get_or, length-replicate}
use Rattle.bits.specs.definitions.Bits.{bit_of}
use Rattle.bits.specs.definitions.Words.{word_at}
use Rattle.bits.proofs.Tabulate.{get_d_tabulate}
use Rattle.bits.proofs.Value.{bit_lt}
use Rattle.bits.proofs.Fields.{bytes_bit}
use Rattle.bits.proofs.Words.{row_at_lem}
use Rattle.decoder.specs.definitions.Mend.{mend, mended, flag_of}
use Rattle.decoder.specs.definitions.Word.{mended_frame, flags_of}
use Rattle.decoder.proofs.Theorems.{mended_lt}
use Rattle.lanes.specs.definitions.Permutation.{Places}
use Rattle.lane_words.specs.definitions.LaneWords.{word_lanes}
use Rattle.lanes.specs.definitions.Stream.{stream_bit}
use Rattle.lanes.specs.private.Stream.{deinterleaved}
use Rattle.lanes.proofs.Stream.{deinterleaved_stream}
use Rattle.symbols.specs.definitions.Frame.{arrived, words_of}
use Rattle.symbols.proofs.Return.{arrived_lt}
use Rattle.framing.specs.definitions.Receive.{brought_lanes, received_lanes, received_store, received_flags, receive_number}
use Rattle.framing.specs.definitions.Stream.{Received}
use Rattle.framing.proofs.Receiving.{store_length, done}

-- ---- one frame, word by word

-- what a word is passed on as
unfoldable pub passed_on : ℕ → ℕ
passed_on w = mended w (mend w)

module _ (f : List ℕ) (i : ℕ) (h : i < 384) where
  arrived_at : word_at (words_of f) i ≡ arrived f i
  unfolding words_of
  arrived_at = row_at_lem 384 (arrived f) i h (arrived_lt f i)

  pub passed_at : word_at (mended_frame (words_of f)) i ≡ passed_on (arrived f i)
  unfolding mended_frame passed_on
  passed_at =
      let small : passed_on (word_at (words_of f) i) < 2 ^ 126 = mended_lt (word_at (words_of f) i)
      (subst (λ (w : ℕ). w < 2 ^ 126) (sym arrived_at) (arrived_lt f i)) in
      row_at_lem 384 (λ i. mended (word_at (words_of f) i) (mend (word_at (words_of f) i))) i h small ∙ ap (λ (w : ℕ). mended w (mend w)) arrived_at

  pub flag_at_lem : get_or (received_flags f) i 0 ≡ flag_of (mend (arrived f i))
  unfolding received_flags flags_of
  flag_at_lem = get_d_tabulate 384 _ i 0 h ∙ ap (λ (w : ℕ). flag_of (mend w)) arrived_at

-- bit i of lane p of the lanes that frames bring, by the word that holds it
pub brought_bit : (frames : ℕ → List ℕ) (p i : ℕ) → p < 32
    → stream_bit (λ f. brought_lanes (frames f)) p i ≡ bit_of 126 (passed_on (arrived (frames (i / 1320)) (32 * (i % 1320 / 110) + p))) (i % 110)
unfolding stream_bit brought_lanes word_lanes
brought_bit frames p i h =
    let f = frames (i / 1320) in
    let s = mended_frame (words_of f) in
    let j = 1320 * p + i % 1320 in
    let k = 32 * (i % 1320 / 110) + p in
    let word : 32 * (j % 1320 / 110) + j / 1320 ≡ k = omega arith in
    let bit : j % 1320 % 110 ≡ i % 110 = omega arith in
    bytes_bit 5280 (λ j. bit_of 126 (word_at s (32 * (j % 1320 / 110) + j / 1320)) (j % 1320 % 110))
    (λ j _. bit_lt 126 (word_at s (32 * (j % 1320 / 110) + j / 1320)) (j % 1320 % 110)) j (omega arith)
    ∙ ap₂ (λ (a b : ℕ). bit_of 126 (word_at s a) b) word bit ∙ ap (λ (w : ℕ). bit_of 126 w (i % 110)) (passed_at f k (omega arith))

-- ---- a run

module _ (ex : Places) (n : ℕ) (frames outs flag_buffers : ℕ → List ℕ) (numbers : ℕ → ℕ) (stores back flag_bytes : ℕ → List ℕ)
    (R : Received ex n frames outs flag_buffers numbers stores back flag_bytes) where
  -- refused or not, a call leaves a whole store
  pub store_whole : (f : ℕ) → f ≤ n → length (stores f) ≡ 2880
  store_whole zero h = ap length R.fresh ∙ length-replicate {A = ℕ} 2880 0
  store_whole (suc f) h =
      ap length (R.call f h).store
      ∙ either (eqb (receive_number (frames f) (stores f) (outs f) (flag_buffers f)) 0) (received_store (frames f) (stores f)) (stores f)
      (store_length _ (stores f))
      (store_whole f (omega arith))
    where
      either : (b : Bool) (x y : List ℕ) → length x ≡ 2880 → length y ≡ 2880 → length (cond b x y) ≡ 2880
      either true x y e d = e
      either false x y e d = d

  -- a call that is not refused is done
  pub call_done : (f : ℕ) → f < n → numbers f ≡ 0
      → (stores (suc f) ≡ received_store (frames f) (stores f)) × (back f ≡ received_lanes ex (frames f) (stores f))
      × (flag_bytes f ≡ received_flags (frames f))
  call_done f h e = done ex (frames f) (stores f) (outs f) (flag_buffers f) (numbers f) (stores (suc f)) (back f) (flag_bytes f) e (R.call f h)

  -- if no frame is refused, what comes back is what the frames bring, deinterleaved
  pub back_stream : ((f : ℕ) → f < n → numbers f ≡ 0)
      → (p i : ℕ) → p < 32 → i < 1320 * n → stream_bit back p i ≡ deinterleaved ex (stream_bit (λ f. brought_lanes (frames f))) p i
  back_stream accepted p i hp hi =
      deinterleaved_stream ex n (λ f. brought_lanes (frames f)) back stores p i hp hi
      (record { fresh = R.fresh; out = λ f h. (call_done f h (accepted f h)).1; next = λ f h. (call_done f h (accepted f h)).0 })
