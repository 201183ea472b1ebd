-- Empty programs that the contracts of `send` and `receive` forbid, at named inputs: lanes of zeros and lanes of ones, from a fresh store, and the frame of
-- the zeros.
-- Assumes nothing.
use mathlib.Core.Path.{◌≡◌, refl, sym, ap, ◌∙◌}
use mathlib.Core.Bool.{Bool, cond}
use mathlib.Core.List.{List}
use Prim.Native.Nat.{ℕ, zero, suc, ◌/◌, ◌%◌, ◌<◌}
use native.Mathlib.Omega.{arith}
use lib.ListN.{length, replicate, length-replicate, get_or-replicate}
use Rattle.bits.specs.definitions.Bits.{bit_of, bit_at}
use Rattle.lanes.specs.definitions.Permutation.{named, permuted, lanes_of}
use Rattle.lanes.specs.definitions.Interleaver.{sender, interleaved_store, store_bit}
use Rattle.lanes.specs.definitions.Stream.{stream_bit, delayed, interleaved}
use Rattle.lanes.specs.private.Stream.{deinterleaved}
use Rattle.lanes.proofs.Bytewise.{permuted_lt, lanes_lt}
use Rattle.lanes.proofs.Stream.{stored_bit}
use Rattle.symbols.specs.definitions.Frame.{arrived}
use Rattle.framing.specs.definitions.Places.{base}
use Rattle.framing.specs.definitions.Send.{sent_frame, Sends}
use Rattle.framing.specs.definitions.Receive.{receive_number, Receives}
use Rattle.framing.proofs.Sending.{frame_length, done}
use Rattle.framing.proofs.Receiving.{all_lengths}
use Rattle.framing.proofs.Stream.{block_rule, sent_locks}
use Rattle.framing.proofs.Received.{back_stream}

-- lanes of one byte over and over, a fresh store, room for a frame
abbrev pub filled : ℕ → List ℕ
filled b = replicate 5280 b

abbrev pub fresh : List ℕ
fresh = replicate 2880 0

abbrev pub room : List ℕ
room = replicate 6144 0

long : (n b : ℕ) → length (replicate {A = ℕ} n b) ≡ n
long n b = length-replicate {A = ℕ} n b

-- bit 0 of word 0 of lane 0 is the lanes' first bit
first_bit : (b : ℕ) (c s' : List ℕ) → Sends base (filled b) fresh room 0 s' c → bit_of 126 (arrived c 0) 0 ≡ bit_at (filled b) 0
unfolding interleaved delayed stream_bit permuted named
first_bit b c s' C =
    (block_rule base 1 (λ _. filled b) (λ _. room) (λ _. 0) (λ _. c) stores
    (record { whole = λ f h. (long 5280 b, long 6144 0); fresh = refl; call = λ f h. at f h })
    ).2 0 0 0 (omega arith) (omega arith) (omega arith)
  where
    stores : ℕ → List ℕ
    stores zero = fresh
    stores (suc f) = s'

    at : (f : ℕ) → f < 1 → Sends base (filled b) (stores f) room 0 (stores (suc f)) c
    at zero h = C
    at (suc f) h = absurd (omega arith)

-- one frame for all lanes
pub constant_frame : (c s s' : List ℕ) → Sends base (filled 0) fresh room 0 s c → Sends base (filled 255) fresh room 0 s' c → ⊥
unfolding bit_at bit_of
constant_frame c s s' C D =
    let none : bit_at (filled 0) 0 ≡ 0 = ap (λ (v : ℕ). v / 128 % 2) (get_or-replicate 5280 0 0 0 (omega arith)) in
    let all : bit_at (filled 255) 0 ≡ 1 = ap (λ (v : ℕ). v / 128 % 2) (get_or-replicate 5280 0 255 0 (omega arith)) in
    let e : ◌≡◌ {A = ℕ} 0 1 = sym none ∙ sym (first_bit 0 c s C) ∙ first_bit 255 c s' D ∙ all in
    omega arith

-- a store never written: the newest block of row 1 is block 31 of the lane
pub store_unwritten : (r : ℕ) (o : List ℕ) → Sends base (filled 255) fresh room r fresh o → ⊥
unfolding bit_at bit_of interleaved_store store_bit permuted named
store_unwritten r o C =
    let none : bit_at fresh 0 ≡ 0 = ap (λ (v : ℕ). v / 128 % 2) (get_or-replicate 2880 0 0 0 (omega arith)) in
    let all : bit_at (filled 255) 1240 ≡ 1 = ap (λ (v : ℕ). v / 128 % 2) (get_or-replicate 5280 155 255 0 (omega arith)) in
    let kept : fresh ≡ interleaved_store base (filled 255) fresh = (done base (filled 255) fresh room r fresh o (long 5280 255) (long 2880 0)
    (long 6144 0) C).1 in
    let first : bit_at (interleaved_store base (filled 255) fresh) 0
    ≡ bit_at (filled 255) 1240 =
    stored_bit sender fresh (permuted base (lanes_of (filled 255))) (permuted_lt base (lanes_of (filled 255)) (lanes_lt (filled 255))) 0 0 (omega arith)
    (omega arith) in
    let e : ◌≡◌ {A = ℕ} 0 1 = sym none ∙ ap (λ (s : List ℕ). bit_at s 0) kept ∙ first ∙ all in
    omega arith

-- ---- receiving

-- the frame of zeros, received into a fresh store; room for its flags
abbrev pub frame : List ℕ
frame = sent_frame base (filled 0) fresh

abbrev pub flag_room : List ℕ
flag_room = replicate 384 0

accepted : (b : ℕ) → receive_number frame fresh (filled b) flag_room ≡ 0
accepted b =
    all_lengths frame fresh (filled b) flag_room (frame_length base (filled 0) fresh) (long 2880 0) (long 5280 b) (long 384 0)
    ∙ ap (λ (l : Bool). cond l 0 5) (sent_locks base (filled 0) fresh)

-- every frame refused
pub always_refused : (r : ℕ) (s o g : List ℕ) → Receives base frame fresh (filled 0) flag_room (suc r) s o g → ⊥
always_refused r s o g C = let e : suc r ≡ 0 = C.number ∙ accepted 0 in omega arith

-- nothing written: what a fresh receiver returns begins with zeros
pub lanes_unwritten : (r : ℕ) (s g : List ℕ) → Receives base frame fresh (filled 255) flag_room r s (filled 255) g → ⊥
unfolding stream_bit bit_at bit_of deinterleaved delayed permuted named
lanes_unwritten r s g C =
    let all : bit_at (filled 255) 0 ≡ 1 = ap (λ (v : ℕ). v / 128 % 2) (get_or-replicate 5280 0 255 0 (omega arith)) in
    let none : stream_bit (λ _. filled 255) 0 0 ≡ 0 =
    back_stream base 1 (λ _. frame) (λ _. filled 255) (λ _. flag_room) (λ _. r) stores (λ _. filled 255) (λ _. g)
    (record { fresh = refl; call = λ f h. at f h }) (λ f h. C.number ∙ accepted 255) 0 0 (omega arith) (omega arith) in
    let e : ◌≡◌ {A = ℕ} 0 1 = sym none ∙ all in
    omega arith
  where
    stores : ℕ → List ℕ
    stores zero = fresh
    stores (suc f) = s

    at : (f : ℕ) → f < 1 → Receives base frame (stores f) (filled 255) flag_room r (stores (suc f)) (filled 255) g
    at zero h = C
    at (suc f) h = absurd (omega arith)
