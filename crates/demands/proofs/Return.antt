-- `Return` and `OneFrame`: what is sent are code words, so that they are passed on as they are, and the stages undo each other.
-- Assumes nothing.
use mathlib.Core.Path.{◌≡◌, sym, ap, ap₂, ◌∙◌, subst}
use mathlib.Core.Bool.{Bool, true, cond}
use mathlib.Core.List.{List}
use Prim.Native.Nat.{ℕ, ◌+◌, ◌*◌, ◌/◌, ◌%◌, ◌<◌}
use native.Mathlib.Omega.{arith}
use lib.ListN.{length, replicate, length-replicate, get_or-replicate}
use lib.Seq.{ext_get_or}
use lib.Bits.{xor_self}
use Rattle.bits.specs.definitions.Bits.{value, bit_of, bit_at, AllBytes}
use Rattle.bits.proofs.Fields.{byte_field, field_is}
use Rattle.bits.proofs.Weight.{weight, weight_zero}
use Rattle.bch.specs.definitions.Code.{CodeWord, distance}
use Rattle.decoder.proofs.Distance.{distance_weight}
use Rattle.decoder.proofs.Theorems.{mends_two}
use Rattle.lanes.specs.definitions.Permutation.{Places}
use Rattle.lanes.specs.definitions.Stream.{stream_bit, interleaved}
use Rattle.lanes.specs.private.Stream.{deinterleaved}
use Rattle.lanes.proofs.Return.{back_late, back_early, deinterleaved_cong}
use Rattle.symbols.specs.definitions.Frame.{arrived}
use Rattle.pilots.specs.definitions.Pilots.{locks}
use Rattle.symbols.proofs.Return.{arrived_lt}
use Rattle.framing.specs.definitions.Receive.{brought_lanes, received_lanes, received_flags}
use Rattle.framing.specs.definitions.Stream.{Sent, Received}
use Rattle.framing.proofs.Sending.{frame_length}
use Rattle.framing.proofs.Receiving.{all_lengths, lanes_length, lanes_bytes, flags_length}
use Rattle.framing.proofs.Stream.{block_rule, frame_sent, sent_locks}
use Rattle.framing.proofs.Received.{flag_at_lem, brought_bit, store_whole, call_done, back_stream}
use Rattle.demands.specs.statements.Return.{Return, OneFrame}
use Rattle.demands.proofs.Hit.{code_passed}

-- ---- a run of sending, received as it was sent

module _ (ex : Places) (n : ℕ) (lanes room : ℕ → List ℕ) (sent_numbers : ℕ → ℕ) (frames sent_stores : ℕ → List ℕ)
    (S : Sent ex n lanes room sent_numbers frames sent_stores) where
  pub sent_done : (f : ℕ) → f < n → sent_numbers f ≡ 0
  sent_done = (block_rule ex n lanes room sent_numbers frames sent_stores S).0

  pub sent_words : (f : ℕ) → f < n → (i : ℕ) → i < 384 → CodeWord (arrived (frames f) i)
  sent_words f h i l = (block_rule ex n lanes room sent_numbers frames sent_stores S).1 f i h l

  sent_length : (f : ℕ) → f < n → length (frames f) ≡ 6144
  sent_length f h = ap length (frame_sent ex n lanes room sent_numbers frames sent_stores S f h) ∙ frame_length ex (lanes f) (sent_stores f)

  sent_lock : (f : ℕ) → f < n → locks (frames f) 0 ≡ true
  sent_lock f h = ap (λ (x : List ℕ). locks x 0) (frame_sent ex n lanes room sent_numbers frames sent_stores S f h) ∙ sent_locks ex (lanes f) (sent_stores f)

  -- the lanes that the frames bring are the interleaved lanes
  pub brought_sent : (p i : ℕ) → p < 32 → i < 1320 * n → stream_bit (λ f. brought_lanes (frames f)) p i ≡ interleaved ex (stream_bit lanes) p i
  brought_sent p i hp hi =
      let w = i / 110 in
      let c = arrived (frames (i / 1320)) (32 * (i % 1320 / 110) + p) in
      let frame : i / 1320 ≡ w / 12 = omega arith in
      let word : 32 * (i % 1320 / 110) + p ≡ 32 * (w % 12) + p = omega arith in
      let bit : 110 * w + i % 110 ≡ i = omega arith in
      brought_bit frames p i hp
      ∙ ap (λ (v : ℕ). bit_of 126 v (i % 110))
      (code_passed c (sent_words (i / 1320) (omega arith) (32 * (i % 1320 / 110) + p) (omega arith))
      (arrived_lt (frames (i / 1320)) (32 * (i % 1320 / 110) + p)))
      ∙ ap₂ (λ (f k : ℕ). bit_of 126 (arrived (frames f) k) (i % 110)) frame word
      ∙ (block_rule ex n lanes room sent_numbers frames sent_stores S).2 p w (i % 110) hp (omega arith) (omega arith)
      ∙ ap (interleaved ex (stream_bit lanes) p) bit

  module _ (outs flag_buffers : ℕ → List ℕ) (numbers : ℕ → ℕ) (stores back flag_bytes : ℕ → List ℕ)
      (R : Received ex n frames outs flag_buffers numbers stores back flag_bytes) where
    -- with room for the lanes and the flags a call is not refused
    pub clean_done : (f : ℕ) → f < n → length (outs f) ≡ 5280 → length (flag_buffers f) ≡ 384 → numbers f ≡ 0
    clean_done f h o g =
        (R.call f h).number
        ∙ all_lengths (frames f) (stores f) (outs f) (flag_buffers f) (sent_length f h)
        (store_whole ex n frames outs flag_buffers numbers stores back flag_bytes R f (omega arith)) o g
        ∙ ap (λ (b : Bool). cond b 0 5) (sent_lock f h)

    module _ (accepted : (f : ℕ) → f < n → numbers f ≡ 0) where
      -- and what comes back are the lanes, interleaved and deinterleaved
      pub clean_back : (p i : ℕ) → p < 32 → i < 1320 * n → stream_bit back p i ≡ deinterleaved ex (interleaved ex (stream_bit lanes)) p i
      clean_back p i hp hi =
          back_stream ex n frames outs flag_buffers numbers stores back flag_bytes R accepted p i hp hi
          ∙ deinterleaved_cong ex (stream_bit (λ f. brought_lanes (frames f))) (interleaved ex (stream_bit lanes)) p i hp
          (λ q j hq hj. brought_sent q j hq (omega arith))

      clean_length : (f : ℕ) → f < n → length (back f) ≡ 5280
      clean_length f h =
          ap length (call_done ex n frames outs flag_buffers numbers stores back flag_bytes R f h (accepted f h)).1 ∙ lanes_length ex _ (stores f)

      clean_flags : (f : ℕ) → f < n → flag_bytes f ≡ replicate 384 0
      clean_flags f h =
          (call_done ex n frames outs flag_buffers numbers stores back flag_bytes R f h (accepted f h)).2
          ∙ ext_get_or 0 (received_flags (frames f)) (replicate 384 0) (flags_length (frames f) ∙ sym (length-replicate {A = ℕ} 384 0))
          (λ i l.
          let k : i < 384 = subst (λ (m : ℕ). i < m) (flags_length (frames f)) l in
          let c = arrived (frames f) i in
          let none : distance c c ≡ 0 = distance_weight c c ∙ ap (weight 126) (xor_self c) ∙ weight_zero 126 in
          flag_at_lem (frames f) i k ∙ (mends_two c c (sent_words f h i k) (arrived_lt (frames f) i) (omega arith)).1 ∙ none
          ∙ sym (get_or-replicate 384 i 0 0 k))

pub return : Return
return ex n lanes sent_numbers numbers back flag_bytes U = (
  λ f h. (sent_done ex n lanes U.room sent_numbers U.frames U.sent_stores U.sent f h, accepted f h),
  λ f h. (
    clean_length ex n lanes U.room sent_numbers U.frames U.sent_stores U.sent U.outs U.flag_buffers numbers U.stores back flag_bytes
        U.received accepted f h,
    clean_flags ex n lanes U.room sent_numbers U.frames U.sent_stores U.sent U.outs U.flag_buffers numbers U.stores back flag_bytes
        U.received accepted f h,
  ),
  λ p i hp early hi. came p i hp hi ∙ back_early ex (stream_bit lanes) p i (omega arith),
  λ p i hp hi. came p _ hp hi ∙ late p i _ hp (omega arith),
)
  where
    accepted : (f : ℕ) → f < n → numbers f ≡ 0
    accepted f h =
        clean_done ex n lanes U.room sent_numbers U.frames U.sent_stores U.sent U.outs U.flag_buffers numbers U.stores back flag_bytes
        U.received f h (U.lent f h).0 (U.lent f h).1

    came : (p i : ℕ) → p < 32 → i < 1320 * n → stream_bit back p i ≡ deinterleaved ex (interleaved ex (stream_bit lanes)) p i
    came =
        clean_back ex n lanes U.room sent_numbers U.frames U.sent_stores U.sent U.outs U.flag_buffers numbers U.stores back flag_bytes
        U.received accepted

    -- 36 blocks later, and no other number
    late : (p i j : ℕ) → p < 32 → j ≡ i + 1440 → deinterleaved ex (interleaved ex (stream_bit lanes)) p j ≡ stream_bit lanes p i
    late p i j hp e = ap (deinterleaved ex (interleaved ex (stream_bit lanes)) p) e ∙ back_late ex (stream_bit lanes) p i hp

-- one frame: every byte has eight bits of the first 36 blocks
pub one_frame : OneFrame
unfolding stream_bit value
one_frame ex lanes sent_numbers numbers back flag_bytes U =
    ext_get_or 0 (back 0) (replicate 5280 0) (whole ∙ sym (length-replicate {A = ℕ} 5280 0))
    (λ m l.
    let h : m < 5280 = subst (λ (k : ℕ). m < k) whole l in
    sym (byte_field (back 0) bytes m) ∙ field_is (back 0) (8 * m) 8 (λ _. 0) (λ q c. zeros (8 * m + q) (omega arith)) ∙ sym (get_or-replicate 5280 m 0 0 h))
  where
    is : back 0 ≡ received_lanes ex (U.frames 0) (U.stores 0)
    is =
        (call_done ex 1 U.frames U.outs U.flag_buffers numbers U.stores back flag_bytes U.received 0 (omega arith)
        ((return ex 1 lanes sent_numbers numbers back flag_bytes U).0 0 (omega arith)).1).1

    whole : length (back 0) ≡ 5280
    whole = ((return ex 1 lanes sent_numbers numbers back flag_bytes U).1 0 (omega arith)).0

    bytes : AllBytes (back 0)
    bytes = subst AllBytes (sym is) (lanes_bytes ex (U.frames 0) (U.stores 0))

    zeros : (j : ℕ) → j < 42240 → bit_at (back 0) j ≡ 0
    zeros j h =
        let frame : 0 ≡ j % 1320 / 1320 = omega arith in
        let place : j ≡ 1320 * (j / 1320) + j % 1320 % 1320 = omega arith in
        ap₂ (λ (f i : ℕ). bit_at (back f) i) frame place
        ∙ (return ex 1 lanes sent_numbers numbers back flag_bytes U).2 (j / 1320) (j % 1320) (omega arith) (omega arith) (omega arith)
