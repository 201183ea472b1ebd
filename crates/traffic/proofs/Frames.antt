-- Frames of test traffic by their bits, and runs of calls. `FrameFrom`, `OneAfterTheOther`, `OneSequence`, `TrafficExists` and `TopBit`.
-- Assumes nothing.
use mathlib.Core.Path.{◌≡◌, refl, sym, ap, ◌∙◌}
use mathlib.Core.List.{List}
use Prim.Native.Nat.{ℕ, zero, suc, ◌+◌, ◌*◌, ◌/◌, ◌%◌, ◌^◌, ◌<◌, ◌≤◌}
use native.Mathlib.Omega.{arith}
use lib.ListN.{length}
use Rattle.bits.specs.definitions.Call.{unless, after}
use Rattle.bits.proofs.Calls.{passed, written}
use Rattle.bits.proofs.Fields.{length_bytes}
use Rattle.lanes.specs.definitions.Permutation.{lanes_of, lane_bytes}
use Rattle.lanes.specs.definitions.Stream.{stream_bit}
use Rattle.lanes.proofs.Bytewise.{frame_bit}
use Rattle.traffic.specs.definitions.Register.{state_from, seed, state_after, sent_bit, bit_from, traffic_bit}
use Rattle.traffic.specs.definitions.Traffic.{placed, frame_bits, traffic_from, traffic_frame, Generates, Continues, Generated}
use Rattle.traffic.specs.statements.Traffic.{FrameFrom, OneAfterTheOther, OneSequence, TrafficExists, TopBit}
use Rattle.traffic.proofs.Register.{sent_lt, from_add, from_mod, bit_mod}

-- ---- bits

pub placed_lt : (s p i : ℕ) → placed (bit_from s) p i < 2
unfolding placed
placed_lt s p i = sent_lt (state_from s (320 * (i / 10) + 10 * p + i % 10))

-- m symbols of every lane later the stream goes on from its state there
pub placed_later : (s p m i : ℕ) → placed (bit_from s) p (10 * m + i) ≡ placed (bit_from (state_from s (320 * m))) p i
unfolding placed
placed_later s p m i =
    let k : ℕ = 320 * (i / 10) + 10 * p + i % 10 in
    let e : 320 * ((10 * m + i) / 10) + 10 * p + (10 * m + i) % 10 ≡ 320 * m + k = omega arith in
    ap (bit_from s) e ∙ ap sent_bit (from_add s (320 * m) k)

-- so a frame's bits are those from its state on
pub placed_frame : (f p i : ℕ) → placed traffic_bit p (1320 * f + i) ≡ placed (bit_from (state_after (frame_bits * f))) p i
placed_frame f p i =
    let e : 1320 * f + i ≡ 10 * (132 * f) + i = omega arith in
    let d : 320 * (132 * f) ≡ frame_bits * f = omega arith in
    ap (placed traffic_bit p) e ∙ placed_later seed p (132 * f) i ∙ ap (λ (n : ℕ). placed (bit_from (state_after n)) p i) d

pub frame_from : FrameFrom
unfolding traffic_frame traffic_from
frame_from f k = lane_bytes (λ p i. placed_frame f p i k)

pub from_length : (s : ℕ) → length (traffic_from s) ≡ 5280
unfolding traffic_from lane_bytes
from_length s = length_bytes 5280 _

pub frame_length : (f : ℕ) → length (traffic_frame f) ≡ 5280
frame_length f = ap length (frame_from f) ∙ from_length (state_after (frame_bits * f))

-- bit i of lane p of a frame
pub from_placed : (s p i : ℕ) → p < 32 → i < 1320 → lanes_of (traffic_from s) p i ≡ placed (bit_from s) p i
unfolding traffic_from
from_placed s = frame_bit (placed (bit_from s)) (placed_lt s)

pub frame_placed : (f p i : ℕ) → p < 32 → i < 1320 → lanes_of (traffic_frame f) p i ≡ placed traffic_bit p (1320 * f + i)
unfolding traffic_frame
frame_placed f = frame_bit (λ p i. placed traffic_bit p (1320 * f + i)) (λ p i. placed_lt seed p (1320 * f + i))

-- ---- calls

generates_done : (f : ℕ) (o o' : List ℕ) → length o ≡ 5280 → o' ≡ traffic_frame f → Generates f o 0 o'
generates_done f o o' h q = let e = passed 5280 o 3 0 h in record { number = sym e; output = q ∙ sym (written _ _ o e) }

-- and the other way: a call that answered 0 left the frame
pub generates_frame : (f : ℕ) (o o' : List ℕ) → Generates f o 0 o' → o' ≡ traffic_frame f
generates_frame f o o' G = G.output ∙ written _ _ o (sym G.number)

pub continues_done : (s : ℕ) (o : List ℕ) (s' : ℕ) (o' : List ℕ) → length o ≡ 5280 → s' ≡ state_from s frame_bits → o' ≡ traffic_from s → Continues s o 0 s' o'
continues_done s o s' o' h p q =
    let e = passed 5280 o 3 0 h in
    record { number = sym e; state = p ∙ sym (written _ _ s e); output = q ∙ sym (written _ _ o e) }

-- a call that goes on from the state of frame f is one for frame f
pub continues_frame : (f : ℕ) {s : ℕ} {o : List ℕ} {r s' : ℕ} {o' : List ℕ} → s ≡ state_after (frame_bits * f) → Continues s o r s' o' → Generates f o r o'
continues_frame f {s} {o} e C =
    record { number = C.number; output = C.output ∙ ap (λ (l : List ℕ). after (unless 5280 o 3 0) l o) (ap traffic_from e ∙ sym (frame_from f)) }

-- what a call left that was lent 5,280 bytes
pub continues_left : (s : ℕ) (o : List ℕ) (r s' : ℕ) (o' : List ℕ) → length o ≡ 5280 → Continues s o r s' o'
    → (r ≡ 0) × (s' ≡ state_from s frame_bits) × (o' ≡ traffic_from s)
continues_left s o r s' o' h C =
    let e = passed 5280 o 3 0 h in
    (C.number ∙ e, C.state ∙ written _ _ s e, C.output ∙ written _ _ o e)

-- ---- runs of calls

-- one frame later
state_later : (f : ℕ) → state_after (frame_bits * suc f) ≡ state_from (state_after (frame_bits * f)) frame_bits
state_later f = let e : frame_bits * suc f ≡ frame_bits * f + frame_bits = omega arith in ap state_after e ∙ from_add seed (frame_bits * f) frame_bits

pub one_after_the_other : OneAfterTheOther
unfolding state_from
one_after_the_other n outs numbers states lanes C = (
  λ f h. ((at f h).0, state (suc f) h),
  record { call = λ f h. generates_done f (outs f) (lanes f) (C.whole f h) (frame f h) },
  λ outs' lanes' G f h. frame f h ∙ sym (generates_frame f (outs' f) (lanes' f) (G.call f h)),
)
  where
    at : (f : ℕ) → f < n → (numbers f ≡ 0) × (states (suc f) ≡ state_from (states f) frame_bits) × (lanes f ≡ traffic_from (states f))
    at f h = continues_left (states f) (outs f) (numbers f) (states (suc f)) (lanes f) (C.whole f h) (C.call f h)

    state : (f : ℕ) → f ≤ n → states f ≡ state_after (frame_bits * f)
    state zero h = C.fresh
    state (suc f) h = (at f h).1 ∙ ap (λ (s : ℕ). state_from s frame_bits) (state f (omega arith)) ∙ sym (state_later f)

    frame : (f : ℕ) → f < n → lanes f ≡ traffic_frame f
    frame f h = (at f h).2 ∙ ap traffic_from (state f (omega arith)) ∙ sym (frame_from f)

-- bit i of lane p, counted over all frames
pub stream_placed : (n : ℕ) (outs lanes : ℕ → List ℕ) → Generated n outs lanes → (p i : ℕ) → p < 32 → i < 1320 * n
    → stream_bit lanes p i ≡ placed traffic_bit p i
unfolding stream_bit
stream_placed n outs lanes G p i hp hi =
    let f : ℕ = i / 1320 in
    let e : 1320 * f + i % 1320 ≡ i = omega arith in
    ap (λ (l : List ℕ). lanes_of l p (i % 1320)) (generates_frame f (outs f) (lanes f) (G.call f (omega arith)))
    ∙ frame_placed f p (i % 1320) hp (omega arith) ∙ ap (placed traffic_bit p) e

pub one_sequence : OneSequence
unfolding placed
one_sequence n outs lanes G s p c hp hc h =
    let e : 320 * ((10 * s + c) / 10) + 10 * p + (10 * s + c) % 10 ≡ 320 * s + 10 * p + c = omega arith in
    stream_placed n outs lanes G p (10 * s + c) hp h ∙ ap traffic_bit e

pub traffic_exists : TrafficExists
unfolding state_from
traffic_exists n outs = (
  λ whole. (
    record { call = λ f h. generates_done f (outs f) (traffic_frame f) (whole f h) refl },
    (λ _. 0, λ f. state_after (frame_bits * f), record { whole = whole; fresh = refl; call = call whole }),
  ),
  λ lanes G f h. ap length (generates_frame f (outs f) (lanes f) (G.call f h)) ∙ frame_length f,
)
  where
    call : ((f : ℕ) → f < n → length (outs f) ≡ 5280) → (f : ℕ) → f < n
        → Continues (state_after (frame_bits * f)) (outs f) 0 (state_after (frame_bits * suc f)) (traffic_frame f)
    call whole f h = continues_done (state_after (frame_bits * f)) (outs f) _ _ (whole f h) (state_later f) (frame_from f)

-- ---- the top bit of a state

-- a frame, and the state after it, depend on 31 bits
pub from_top : (s : ℕ) → traffic_from (s % 2 ^ 31) ≡ traffic_from s
unfolding traffic_from placed
from_top s k = lane_bytes (λ p i. bit_mod s (320 * (i / 10) + 10 * p + i % 10) k)

pub top_bit : TopBit
top_bit s o r s' o' h C =
    let e = passed 5280 o 3 0 h in
    record {
      number = C.number;
      state = C.state ∙ written _ _ s e ∙ sym (from_mod s 42239) ∙ sym (written _ _ (s % 2 ^ 31) e);
      output = C.output ∙ written _ _ o e ∙ sym (from_top s) ∙ sym (written _ _ o e);
    }
