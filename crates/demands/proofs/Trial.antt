-- A trial, from its calls' outcomes: what comes back differs from the undamaged by what the flips alone would bring. `RefusedExactly`,
-- `FlipsCounted`, `TrialsExist` and `UndamagedExist`.
-- Assumes nothing.
use mathlib.Core.Path.{◌≡◌, refl, sym, ap, ◌∙◌}
use mathlib.Core.Bool.{Bool, cond}
use mathlib.Core.List.{List}
use Prim.Native.Nat.{ℕ, zero, suc, ◌+◌, ◌*◌, ◌/◌, ◌%◌, ◌<◌}
use native.Mathlib.Omega.{arith}
use lib.ListN.{length, get_or, replicate, length-replicate}
use lib.Bits.{differ}
use Rattle.bch.specs.definitions.Code.{CodeWord}
use Rattle.lanes.specs.definitions.Permutation.{Lanes, Places}
use Rattle.lanes.specs.definitions.Interleaver.{interleaved_store}
use Rattle.lanes.specs.definitions.Stream.{stream_bit}
use Rattle.lanes.specs.private.Stream.{deinterleaved}
use Rattle.lanes.proofs.Return.{deinterleaved_cong, deinterleaved_zip}
use Rattle.symbols.specs.definitions.Frame.{arrived}
use Rattle.pilots.specs.definitions.Table5.{pilots}
use Rattle.bits.specs.definitions.Call.{unless, after}
use Rattle.framing.specs.definitions.Send.{sent_frame, send_number}
use Rattle.framing.specs.definitions.Receive.{brought_lanes, received_lanes, received_store, received_flags, receive_number}
use Rattle.framing.specs.definitions.Stream.{Sent, Received}
use Rattle.framing.proofs.Receiving.{whole, lent}
use Rattle.framing.proofs.Stream.{frame_sent, sent_pilot}
use Rattle.framing.proofs.Received.{store_whole, call_done, back_stream}
use Rattle.demands.specs.definitions.Trial.{hit, Trial, Accepted, flips_in}
use Rattle.demands.specs.statements.Trial.{FlipsCounted, RefusedExactly, TrialsExist}
use Rattle.demands.specs.statements.Return.{UndamagedExist}
use Rattle.demands.proofs.Hit.{hit_length, hit_locks, hit_distance, flags_hit, brought_hit}
use Rattle.demands.proofs.Return.{sent_words, clean_done}

module _ {ex : Places} {n : ℕ} {flips lanes room outs flag_buffers : ℕ → List ℕ} (t : Trial ex n flips lanes room outs flag_buffers) where
  pub code_words : (f : ℕ) → f < n → (i : ℕ) → i < 384 → CodeWord (arrived (t.frames f) i)
  code_words = sent_words ex n lanes room t.sent_numbers t.frames t.sent_stores t.sent

  pub frame_pilots : (f k : ℕ) → f < n → k < 96 → get_or (t.frames f) (64 * k) 0 ≡ get_or pilots k 0
  frame_pilots f k h l =
      ap (λ (x : List ℕ). get_or x (64 * k) 0) (frame_sent ex n lanes room t.sent_numbers t.frames t.sent_stores t.sent f h)
      ∙ sent_pilot ex (lanes f) (t.sent_stores f) k l

  -- the flags of a frame that was not refused are those of the flips
  pub flags_of_flips : (f : ℕ) → f < n → t.numbers f ≡ 0 → t.flag_bytes f ≡ received_flags (flips f)
  flags_of_flips f h e =
      (call_done ex n (λ f. hit (t.frames f) (flips f)) outs flag_buffers t.numbers t.stores t.back t.flag_bytes t.received f h e).2
      ∙ flags_hit (t.frames f) (flips f) (code_words f h)

  module _ (accepted : Accepted t) where
    -- then the outputs and the flags had the right lengths
    pub accepted_lent : (f : ℕ) → f < n → (length (outs f) ≡ 5280) × (length (flag_buffers f) ≡ 384)
    accepted_lent f h = lent (hit (t.frames f) (flips f)) (t.stores f) (outs f) (flag_buffers f) (sym (t.received.call f h).number ∙ accepted f h)

    -- and the undamaged frames are not refused either
    pub clean_accepted : (f : ℕ) → f < n → t.clean_numbers f ≡ 0
    clean_accepted f h =
        clean_done ex n lanes _ t.sent_numbers t.frames t.sent_stores t.sent outs flag_buffers t.clean_numbers t.clean_stores t.clean_back
        t.clean_flags t.undamaged f h (accepted_lent f h).0 (accepted_lent f h).1

    -- what is left of the flips, as lanes: what they would bring if they were frames
    pub differs_by : (p i : ℕ) → p < 32 → i < 1320 * n
        → stream_bit t.back p i ≡ differ (stream_bit t.clean_back p i) (deinterleaved ex (stream_bit (λ f. brought_lanes (flips f))) p i)
    differs_by p i hp hi =
        let left : Lanes = stream_bit (λ f. brought_lanes (flips f)) in
        let clean : Lanes = stream_bit (λ f. brought_lanes (t.frames f)) in
        back_stream ex n (λ f. hit (t.frames f) (flips f)) outs flag_buffers t.numbers t.stores t.back t.flag_bytes t.received accepted p i hp hi
        ∙ deinterleaved_cong ex (stream_bit (λ f. brought_lanes (hit (t.frames f) (flips f)))) (λ p i. differ (clean p i) (left p i)) p i hp
        (λ q j hq hj. brought_hit t.frames flips q j hq (code_words (j / 1320) (omega arith)))
        ∙ deinterleaved_zip ex differ refl clean left p i
        ∙ ap (λ (b : ℕ). differ b (deinterleaved ex left p i))
        (sym (back_stream ex n t.frames outs flag_buffers t.clean_numbers t.clean_stores t.clean_back t.clean_flags
        t.undamaged clean_accepted p i hp hi))

pub refused_exactly : RefusedExactly
refused_exactly ex n flips lanes room outs flag_buffers t f h =
    (t.received.call f h).number
    ∙ whole (hit (t.frames f) (flips f)) (t.stores f) (outs f) (flag_buffers f) (hit_length (t.frames f) (flips f))
    (store_whole ex n (λ f. hit (t.frames f) (flips f)) outs flag_buffers t.numbers t.stores t.back t.flag_bytes t.received f (omega arith))
    ∙ ap (λ (b : Bool). unless 5280 (outs f) 3 (unless 384 (flag_buffers f) 4 (cond b 0 5))) (hit_locks (t.frames f) (flips f) (λ k l. frame_pilots t f k h l))

pub flips_counted : FlipsCounted
unfolding flips_in
flips_counted ex n flips lanes room outs flag_buffers t p w hp hw = hit_distance (t.frames (w / 12)) (flips (w / 12)) (32 * (w % 12) + p) (omega arith)

-- ---- a trial for any lanes, flips and buffers: each call's outcome, one after the other

module _ (ex : Places) (n : ℕ) (flips lanes room outs flag_buffers : ℕ → List ℕ) where
  sender_stores : ℕ → List ℕ
  sender_stores zero = replicate 2880 0
  sender_stores (suc f) = after (send_number (lanes f) (sender_stores f) (room f)) (interleaved_store ex (lanes f) (sender_stores f)) (sender_stores f)

  sent_frames : ℕ → List ℕ
  sent_frames f = after (send_number (lanes f) (sender_stores f) (room f)) (sent_frame ex (lanes f) (sender_stores f)) (room f)

  sends : ((f : ℕ) → f < n → (length (lanes f) ≡ 5280) × (length (room f) ≡ 6144))
      → Sent ex n lanes room (λ f. send_number (lanes f) (sender_stores f) (room f)) sent_frames sender_stores
  unfolding sender_stores sent_frames
  sends whole = record { whole = whole; fresh = refl; call = λ f h. record { number = refl; store = refl; output = refl } }

  module _ (frames : ℕ → List ℕ) where
    receiver_stores : ℕ → List ℕ
    receiver_stores zero = replicate 2880 0
    receiver_stores (suc f) =
        after (receive_number (frames f) (receiver_stores f) (outs f) (flag_buffers f)) (received_store (frames f) (receiver_stores f)) (receiver_stores f)

    answers : ℕ → ℕ
    answers f = receive_number (frames f) (receiver_stores f) (outs f) (flag_buffers f)

    receives : Received ex n frames outs flag_buffers answers receiver_stores
        (λ f. after (answers f) (received_lanes ex (frames f) (receiver_stores f)) (outs f))
        (λ f. after (answers f) (received_flags (frames f)) (flag_buffers f))
    unfolding receiver_stores answers
    receives = record { fresh = refl; call = λ f h. record { number = refl; store = refl; output = refl; flags = refl } }

pub trials_exist : TrialsExist
trials_exist ex n flips lanes room outs flag_buffers whole =
    record {
      sent_numbers = _;
      frames = _;
      sent_stores = _;
      sent = sends ex n flips lanes room outs flag_buffers whole;
      numbers = _;
      stores = _;
      back = _;
      flag_bytes = _;
      received = receives ex n flips lanes room outs flag_buffers (λ f. hit (sent_frames ex n flips lanes room outs flag_buffers f) (flips f));
      clean_numbers = _;
      clean_stores = _;
      clean_back = _;
      clean_flags = _;
      undamaged = receives ex n flips lanes room outs flag_buffers (sent_frames ex n flips lanes room outs flag_buffers);
    }

-- without flips, into outputs and flags of the right lengths
pub undamaged_exist : UndamagedExist
undamaged_exist ex n lanes whole = (
  _,
  _,
  _,
  _,
  record {
    room = λ _. replicate 6144 0;
    frames = _;
    sent_stores = _;
    sent = t.sent;
    outs = λ _. replicate 5280 0;
    flag_buffers = λ _. replicate 384 0;
    lent = λ f h. (length-replicate {A = ℕ} 5280 0, length-replicate {A = ℕ} 384 0);
    stores = _;
    received = t.undamaged;
  },
)
  where
    t : Trial ex n (λ _. replicate 6144 0) lanes (λ _. replicate 6144 0) (λ _. replicate 5280 0) (λ _. replicate 384 0)
    t =
        trials_exist ex n (λ _. replicate 6144 0) lanes (λ _. replicate 6144 0) (λ _. replicate 5280 0) (λ _. replicate 384 0)
        (λ f h. (whole f h, length-replicate {A = ℕ} 6144 0))
