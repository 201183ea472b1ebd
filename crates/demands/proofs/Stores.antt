-- `StoresHold` and `LastKept`: what the rows keep, of the sender and of the receiver of what was sent.
-- Assumes nothing.
use mathlib.Core.Path.{◌≡◌, ap, ◌∙◌}
use mathlib.Core.Bool.{Bool, true, false, cond}
use mathlib.Core.List.{List}
use Prim.Native.Nat.{ℕ, zero, suc, ◌+◌, ◌*◌, ◌-◌, ◌/◌, ◌%◌, ◌≤◌, ◌<◌}
use native.Mathlib.Decide.{ℕ_discrete, dec_lt}
use native.Mathlib.Omega.{arith}
use lib.ListN.{length, length-replicate}
use Rattle.lanes.specs.definitions.Permutation.{Places, permuted, lanes_of}
use Rattle.lanes.specs.definitions.Interleaver.{sender, receiver, stored, interleaved_store, deinterleaved_store}
use Rattle.lanes.specs.definitions.Stream.{stream_bit, interleaved}
use Rattle.lanes.proofs.Bytewise.{permuted_lt, lanes_lt}
use Rattle.lanes.proofs.Rows.{sender_apart, receiver_apart, delayed_at}
use Rattle.lanes.proofs.Return.{across, across_lt, across_twice, permuted_across}
use Rattle.lanes.proofs.Stream.{rows_kept, stream_cut, permuted_cut, interleaved_before}
use Rattle.framing.specs.definitions.Receive.{brought_lanes}
use Rattle.framing.proofs.Received.{store_whole, call_done}
use Rattle.framing.proofs.Sending.{store_length}
use Rattle.framing.proofs.Stream.{sent_next}
use Rattle.demands.specs.definitions.Return.{Undamaged}
use Rattle.demands.specs.definitions.Stores.{before_end}
use Rattle.demands.specs.statements.Stores.{StoresHold, LastKept}
use Rattle.demands.proofs.Return.{brought_sent, return}

module _ {ex : Places} {n : ℕ} {lanes : ℕ → List ℕ} {sent_numbers numbers : ℕ → ℕ} {back flag_bytes : ℕ → List ℕ}
    (u : Undamaged ex n lanes sent_numbers numbers back flag_bytes) where
  next : (f : ℕ) → f < n → u.sent_stores (suc f) ≡ interleaved_store ex (lanes f) (u.sent_stores f)
  next = sent_next ex n lanes u.room sent_numbers u.frames u.sent_stores u.sent

  sent_whole : (f : ℕ) → f ≤ n → length (u.sent_stores f) ≡ 2880
  sent_whole zero h = ap length u.sent.fresh ∙ length-replicate {A = ℕ} 2880 0
  sent_whole (suc f) h = ap length (next f h) ∙ store_length ex (lanes f) (u.sent_stores f)

  -- a row of the sender's keeps the permuted lane
  sender_row : (p r j a b c : ℕ) → p < 32 → r < 3 → j < sender.depth r → a ≡ sender.start r + j → b + r ≡ 3 * suc j → c < 40
      → stored (u.sent_stores n) p (40 * a + c) ≡ before_end ex n lanes p b c
  unfolding interleaved_store
  sender_row p r j a b c =
      rows_kept sender sender_apart n (λ f. permuted ex (lanes_of (lanes f))) (λ f. permuted_lt ex (lanes_of (lanes f)) (lanes_lt (lanes f))) u.sent_stores
      (permuted ex (stream_bit lanes)) (λ f q v hf hq hv. permuted_cut ex lanes f q v hv) u.sent.fresh next n p r j a b c (omega arith)

  -- a row of the receiver's keeps the interleaved lane
  receiver_row : (p r j a b c : ℕ) → p < 32 → r < 3 → j < receiver.depth r → a ≡ receiver.start r + j → b + r ≡ 3 * suc j + 18 * r → c < 40
      → stored (u.stores n) p (40 * a + c) ≡ before_end ex n lanes p b c
  unfolding deinterleaved_store
  receiver_row p r j a b c hp hr hj at before hc =
      rows_kept receiver receiver_apart n (λ f. lanes_of (brought_lanes (u.frames f))) (λ f. lanes_lt (brought_lanes (u.frames f))) u.stores
      (interleaved ex (stream_bit lanes))
      (λ f q v hf hq hv.
      stream_cut (λ f. brought_lanes (u.frames f)) f q v hv
      ∙ brought_sent ex n lanes u.room sent_numbers u.frames u.sent_stores u.sent q (1320 * f + v) hq (omega arith))
      u.received.fresh
      (λ f h.
      (call_done ex n u.frames u.outs u.flag_buffers numbers u.stores back flag_bytes u.received f h
      ((return ex n lanes sent_numbers numbers back flag_bytes u).0 f h).1).0)
      n p r j a (b - 18 * r) c (omega arith) hp hr hj at (omega arith) hc
      ∙ interleaved_before ex (stream_bit lanes) p r (33 * n) (b - 18 * r) b c hr (omega arith) (omega arith) hc

pub stores_hold : StoresHold
stores_hold ex n lanes sent_numbers numbers back flag_bytes u =
    record {
      whole = (
        sent_whole u n (omega arith),
        store_whole ex n u.frames u.outs u.flag_buffers numbers u.stores back flag_bytes u.received n (omega arith),
      );
      sender_row1 = λ p j c hp hj. sender_row u p 1 j j (3 * j + 2) c hp (omega arith) hj (omega arith) (omega arith);
      sender_row2 = λ p j c hp hj. sender_row u p 2 j (6 + j) (3 * j + 1) c hp (omega arith) hj (omega arith) (omega arith);
      receiver_row0 = λ p j c hp hj. receiver_row u p 0 j j (3 * j + 3) c hp (omega arith) hj (omega arith) (omega arith);
      receiver_row1 = λ p j c hp hj. receiver_row u p 1 j (12 + j) (3 * j + 20) c hp (omega arith) hj (omega arith) (omega arith);
    }

-- ---- each bit of the last 36 blocks

-- the block of bit i of a lane, b before the end, has the bit, in the lane with which it stands after the permutation
last_bit : (ex : Places) (n : ℕ) (lanes : ℕ → List ℕ) (p i b : ℕ) → p < 32 → 33 * n ≡ i / 40 + b
    → before_end ex n lanes (across ex p (i / 10)) b (i % 40) ≡ stream_bit lanes p i
last_bit ex n lanes p i b hp e =
    let q = across ex p (i / 10) in
    delayed_at (40 * b) (permuted ex (stream_bit lanes) q) (40 * (33 * n) + i % 40) i (omega arith)
    ∙ permuted_across ex (stream_bit lanes) q i ∙ ap (λ (a : ℕ). stream_bit lanes a i) (across_twice ex p (i / 10) hp)

pub last_kept : LastKept
last_kept ex n p i hp hi late =
    let at = block (ℕ_discrete (b % 3) 0) (ℕ_discrete (b % 3) 1) (dec_lt b 18) in (
      at.0,
      720 * q + (40 * at.1 + i % 40),
      omega (arith, hq, at.2),
      λ lanes sent_numbers numbers back flag_bytes u. at.3 lanes sent_numbers numbers back flag_bytes u ∙ last_bit ex n lanes p i b hp (omega arith),
    )
  where
    b : ℕ
    b = 33 * n - i / 40

    q : ℕ
    q = across ex p (i / 10)

    hq : q < 32
    hq = across_lt ex p (i / 10) hp

    few : b ≤ 36
    few = omega arith

    some : 0 < b
    some = omega arith

    -- by the row that the block is in, and by how long ago it came
    block : Dec (b % 3 ≡ 0) → Dec (b % 3 ≡ 1) → Dec (b < 18)
        → (of_sender : Bool) × (a : ℕ) × (a < 18)
        × ((lanes : ℕ → List ℕ) (sent_numbers numbers : ℕ → ℕ) (back flag_bytes : ℕ → List ℕ) (u : Undamaged ex n lanes sent_numbers numbers back flag_bytes)
        → stored (cond of_sender (u.sent_stores n) (u.stores n)) q (40 * a + i % 40) ≡ before_end ex n lanes q b (i % 40))
    block (yes z) _ _ =
        let j = b / 3 - 1 in
        let lt : j < 12 = omega (arith, few) in
        (false, j, omega arith, λ _ _ _ _ _ u. receiver_row u q 0 j j b (i % 40) hq (omega arith) lt (omega arith) (omega (arith, some)) (omega arith))
    block (no z) (yes o) _ =
        let j = b / 3 in
        let lt : j < 12 = omega (arith, few) in
        (true, 6 + j, omega arith, λ _ _ _ _ _ u. sender_row u q 2 j (6 + j) b (i % 40) hq (omega arith) lt (omega arith) (omega arith) (omega arith))
    block (no z) (no o) (yes l) =
        let j = b / 3 in
        let lt : j < 6 = omega arith in
        (true, j, omega arith, λ _ _ _ _ _ u. sender_row u q 1 j j b (i % 40) hq (omega arith) lt (omega arith) (omega arith) (omega arith))
    block (no z) (no o) (no l) =
        let j = b / 3 - 6 in
        let lt : j < 6 = omega (arith, few) in
        (false, 12 + j, omega arith, λ _ _ _ _ _ u. receiver_row u q 1 j (12 + j) b (i % 40) hq (omega arith) lt (omega arith) (omega arith) (omega arith))
