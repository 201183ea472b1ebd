-- A run of frames from a fresh store is the block rule over the stream, on the way out and on the way back; and what the store holds before each frame.
-- Assumes nothing.
use mathlib.Core.Path.{◌≡◌, sym, ap, ap₂, ◌∙◌}
use mathlib.Core.Bool.{Bool, true, false, cond}
use mathlib.Core.Logic.{⊎_elim}
use mathlib.Core.List.{List}
use Prim.Native.Nat.{ℕ, suc, ◌+◌, ◌*◌, ◌-◌, ◌/◌, ◌%◌, ◌^◌, ◌≤◌, ◌<◌}
use native.Mathlib.Nat.{zero-div}
use native.Mathlib.Decide.{dec_lt}
use native.Mathlib.Omega.{arith}
use lib.Dec.{ltb}
use lib.ListN.{length, get_or, replicate, length-replicate, get_or-replicate, get_or-eq_default}
use Rattle.bits.specs.definitions.Bits.{bit_of, bit_at}
use Rattle.bits.proofs.Fields.{bit_at_lt, bytes_bit}
use Rattle.lanes.specs.definitions.Permutation.{Lanes, Places, partner, permuted, lanes_of}
use Rattle.lanes.specs.definitions.Interleaver.{Rows, sender, receiver, stored, rows_out, row_at, store_bit, store_next, interleaved_frame, interleaved_store}
use Rattle.lanes.specs.definitions.Interleaver.{deinterleaved_frame, deinterleaved_store}
use Rattle.lanes.specs.definitions.Stream.{stream_bit, delayed, interleaved}
use Rattle.lanes.specs.private.Stream.{deinterleaved, Interleaves, Deinterleaves}
use Rattle.lanes.proofs.Bytewise.{frame_bit, permuted_lt, rows_out_lt, lanes_lt}
use Rattle.lanes.proofs.Rows.{lt_or_le, delayed_early, delayed_at, delayed_same, delayed_grain}
use Rattle.lanes.proofs.Rows.{Apart, sender_apart, receiver_apart, Run, row_kept, run_law}

-- a string of zeros has no bit
zero_bit : (n i : ℕ) → bit_at (replicate n 0) i ≡ 0
unfolding bit_at bit_of
zero_bit n i = ap (λ (x : ℕ). x / 2 ^ (8 - 1 - i % 8) % 2) (go (dec_lt (i / 8) n)) ∙ ap (λ (x : ℕ). x % 2) (zero-div (2 ^ (8 - 1 - i % 8)))
  where
    go : Dec (i / 8 < n) → ◌≡◌ {A = ℕ} (get_or (replicate n 0) (i / 8) 0) 0
    go (yes h) = get_or-replicate n (i / 8) 0 0 h
    go (no h) = let l : length {A = ℕ} (replicate n 0) ≤ i / 8 = rw length-replicate (omega arith) in get_or-eq_default (replicate n 0) 0 l

store_lt : (R : Rows) (s : List ℕ) (x : Lanes) → ((p i : ℕ) → x p i < 2) → (p i : ℕ) → store_bit R s x p i < 2
unfolding store_bit
store_lt R s x bit p i = go (ltb q 11)
  where
    r : ℕ
    r = row_at R (i / 40)

    q : ℕ
    q = i / 40 - R.start r

    go : (g : Bool) → cond g (x p (40 * (3 * (11 - suc q) + r) + i % 40)) (stored s p (40 * (R.start r + (q - 11)) + i % 40)) < 2
    go true = bit p (40 * (3 * (11 - suc q) + r) + i % 40)
    go false = bit_at_lt s (720 * p + (40 * (R.start r + (q - 11)) + i % 40))

-- the bits of the store that is kept
pub stored_bit : (R : Rows) (s : List ℕ) (x : Lanes) → ((p i : ℕ) → x p i < 2) → (p i : ℕ) → p < 32 → i < 720
    → stored (store_next R s x) p i ≡ store_bit R s x p i
unfolding store_next
stored_bit R s x bit p i hp hi =
    let e : (720 * p + i) / 720 ≡ p = omega arith in
    let f : (720 * p + i) % 720 ≡ i = omega arith in
    bytes_bit 2880 (λ j. store_bit R s x (j / 720) (j % 720)) (λ j h. store_lt R s x bit (j / 720) (j % 720)) (720 * p + i) (omega arith)
    ∙ ap₂ (store_bit R s x) e f

-- n frames of lanes xs, which are the stream X cut, through the rows R
module _ (R : Rows) (apart : Apart R) (n : ℕ) (xs : ℕ → Lanes) (bit : (f p i : ℕ) → xs f p i < 2) (stores : ℕ → List ℕ) (X : Lanes)
    (cut : (f p u : ℕ) → f < n → p < 32 → u < 1320 → xs f p u ≡ X p (1320 * f + u)) (fresh : stores 0 ≡ replicate 2880 0)
    (next : (f : ℕ) → f < n → stores (suc f) ≡ store_next R (stores f) (xs f)) where
  -- bit c of every block of lane p
  block_run : (p c : ℕ) → p < 32 → c < 40
      → Run R n (λ f b. xs f p (40 * b + c)) (λ f b. rows_out R (stores f) (xs f) p (40 * b + c)) (λ f j. stored (stores f) p (40 * j + c))
  unfolding rows_out store_bit
  block_run p c hp hc =
      record {
        fresh = λ j h. ap (λ (s : List ℕ). stored s p (40 * j + c)) fresh ∙ zero_bit 2880 (720 * p + (40 * j + c));
        out = λ f b hf hb.
            let e : (40 * b + c) / 40 ≡ b = omega arith in
            let d : (40 * b + c) % 40 ≡ c = omega arith in
            rw (e, d);
        next = λ f j hf hj.
            let e : (40 * j + c) / 40 ≡ j = omega arith in
            let d : (40 * j + c) % 40 ≡ c = omega arith in
            ap (λ (s : List ℕ). stored s p (40 * j + c)) (next f hf) ∙ stored_bit R (stores f) (xs f) (bit f) p (40 * j + c) hp (omega arith) ∙ rw (e, d);
      }

  -- which stands in the stream
  block_cut : (p c f b : ℕ) → p < 32 → c < 40 → f < n → b < 33 → xs f p (40 * b + c) ≡ X p (40 * (33 * f + b) + c)
  block_cut p c f b hp hc hf hb = cut f p (40 * b + c) hf hp (omega arith) ∙ ap (X p) (omega arith)

  -- before frame f block a of the store, place j of row r, is the one that came b blocks before the frame: j + 1 blocks of the row
  pub rows_kept : (f p r j a b c : ℕ) → f ≤ n → p < 32 → r < 3 → j < R.depth r → a ≡ R.start r + j → b + r ≡ 3 * suc j → c < 40
      → stored (stores f) p (40 * a + c) ≡ delayed (40 * b) (X p) (40 * (33 * f) + c)
  rows_kept f p r j a b c hf hp hr hj at before hc =
      ap (λ (k : ℕ). stored (stores f) p (40 * k + c)) at
      ∙ row_kept R apart n (λ f b. xs f p (40 * b + c)) (λ f b. rows_out R (stores f) (xs f) p (40 * b + c)) (λ f j. stored (stores f) p (40 * j + c))
      (block_run p c hp hc) (λ m. X p (40 * m + c)) (λ f b. block_cut p c f b hp hc) f r hf hr j hj
      ∙ delayed_grain 3 r (suc j) (11 * f) (λ m. X p (40 * m + c)) hr ∙ delayed_grain 40 c (3 * suc j) (3 * (11 * f) + r) (X p) hc
      ∙ delayed_same (40 * (3 * suc j)) (40 * b) (X p) (40 * (3 * (11 * f) + r) + c) (40 * (33 * f) + c) (omega arith)

  rows_law : (p i : ℕ) → p < 32 → i < 1320 * n → rows_out R (stores (i / 1320)) (xs (i / 1320)) p (i % 1320) ≡ delayed (40 * (3 * R.depth (i / 40 % 3))) (X p) i
  rows_law p i hp hi =
      let f : ℕ = i / 1320 in
      let b : ℕ = i % 1320 / 40 in
      let c : ℕ = i % 40 in
      let u : i % 1320 ≡ 40 * b + c = omega arith in
      let m : 33 * f + b ≡ i / 40 = omega arith in
      let w : 40 * (33 * f + b) + c ≡ i = omega arith in
      ap (rows_out R (stores f) (xs f) p) u
      ∙ run_law R apart n (λ f b. xs f p (40 * b + c)) (λ f b. rows_out R (stores f) (xs f) p (40 * b + c)) (λ f j. stored (stores f) p (40 * j + c))
      (block_run p c hp (omega arith)) (λ m. X p (40 * m + c)) (λ f b. block_cut p c f b hp (omega arith)) f b (omega arith) (omega arith)
      ∙ delayed_grain 40 c (3 * R.depth ((33 * f + b) % 3)) (33 * f + b) (X p) (omega arith)
      ∙ ap₂ (λ (k j : ℕ). delayed (40 * (3 * R.depth (k % 3))) (X p) j) m w

-- a frame's bits are the stream's
pub stream_cut : (ins : ℕ → List ℕ) (f p u : ℕ) → u < 1320 → lanes_of (ins f) p u ≡ stream_bit ins p (1320 * f + u)
unfolding stream_bit
stream_cut ins f p u h =
    let e : f ≡ (1320 * f + u) / 1320 = omega arith in
    let d : u ≡ (1320 * f + u) % 1320 = omega arith in
    ap₂ (λ (g v : ℕ). bit_at (ins g) (1320 * p + v)) e d

pub permuted_cut : (ex : Places) (ins : ℕ → List ℕ) (f p u : ℕ) → u < 1320 → permuted ex (lanes_of (ins f)) p u ≡ permuted ex (stream_bit ins) p (1320 * f + u)
unfolding permuted
permuted_cut ex ins f p u h =
    let s : u / 10 % 4 ≡ (1320 * f + u) / 10 % 4 = omega arith in
    λ k. cond (ex (s k)) (stream_cut ins f (partner p) u h k) (stream_cut ins f p u h k)

module _ (ex : Places) (n : ℕ) (ins outs stores : ℕ → List ℕ) (p i : ℕ) (hp : p < 32) (hi : i < 1320 * n) where
  pub interleaved_stream : Interleaves ex n ins outs stores → stream_bit outs p i ≡ interleaved ex (stream_bit ins) p i
  unfolding stream_bit interleaved interleaved_frame interleaved_store
  interleaved_stream W =
      let f : ℕ = i / 1320 in
      let x : Lanes = permuted ex (lanes_of (ins f)) in
      let lt : (g p i : ℕ) → permuted ex (lanes_of (ins g)) p i < 2 = λ g. permuted_lt ex (lanes_of (ins g)) (lanes_lt (ins g)) in
      let d : 40 * (3 * (6 * (i / 40 % 3))) ≡ 40 * (18 * (i / 40 % 3)) = omega arith in
      ap (λ (l : List ℕ). lanes_of l p (i % 1320)) (W.out f (omega arith))
      ∙ frame_bit (rows_out sender (stores f) x) (rows_out_lt sender (stores f) x (lt f)) p (i % 1320) hp (omega arith)
      ∙ rows_law sender sender_apart n (λ f. permuted ex (lanes_of (ins f))) lt stores (permuted ex (stream_bit ins))
      (λ f p u hf hp hu. permuted_cut ex ins f p u hu)
      W.fresh W.next p i hp hi
      ∙ ap (λ (k : ℕ). delayed k (permuted ex (stream_bit ins) p) i) d

  pub deinterleaved_stream : Deinterleaves ex n ins outs stores → stream_bit outs p i ≡ deinterleaved ex (stream_bit ins) p i
  unfolding stream_bit deinterleaved deinterleaved_frame deinterleaved_store permuted
  deinterleaved_stream U =
      let f : ℕ = i / 1320 in
      let w : Lanes = rows_out receiver (stores f) (lanes_of (ins f)) in
      let s : i % 1320 / 10 % 4 ≡ i / 10 % 4 = omega arith in
      ap (λ (l : List ℕ). lanes_of l p (i % 1320)) (U.out f (omega arith))
      ∙ frame_bit (permuted ex w) (permuted_lt ex w (rows_out_lt receiver (stores f) (lanes_of (ins f)) (lanes_lt (ins f)))) p (i % 1320) hp (omega arith)
      ∙ (λ k. cond (ex (s k)) (row (partner p) (omega arith) k) (row p hp k))
    where
      row : (q : ℕ) → q < 32 → rows_out receiver (stores (i / 1320)) (lanes_of (ins (i / 1320))) q (i % 1320) ≡ delayed (40 * (18 * (2 - i / 40 % 3)))
          (stream_bit ins q) i
      row q hq =
          let d : 40 * (3 * (12 - 6 * (i / 40 % 3))) ≡ 40 * (18 * (2 - i / 40 % 3)) = omega arith in
          rows_law receiver receiver_apart n (λ f. lanes_of (ins f)) (λ f. lanes_lt (ins f)) stores (stream_bit ins) (λ f p u hf hp hu. stream_cut ins f p u hu)
          U.fresh U.next q i hq hi
          ∙ ap (λ (k : ℕ). delayed k (stream_bit ins q) i) d

-- what came b blocks before block m of the interleaved lane is of row r there, and came d, 18 r more, before block m of the permuted lane
pub interleaved_before : (ex : Places) (x : Lanes) (p r m b d c : ℕ) → r < 3 → m % 3 ≡ (b + r) % 3 → d ≡ b + 18 * r → c < 40
    → delayed (40 * b) (interleaved ex x p) (40 * m + c) ≡ delayed (40 * d) (permuted ex x p) (40 * m + c)
unfolding interleaved
interleaved_before ex x p r m b d c hr e more hc =
    ⊎_elim (λ (l : i < 40 * b). delayed_early (40 * b) (interleaved ex x p) i l ∙ sym (delayed_early (40 * d) (permuted ex x p) i (omega arith)))
    (λ (l : 40 * b ≤ i).
    let k = 40 * (m - b) + c in
    let row : k / 40 % 3 ≡ r = omega arith in
    delayed_at (40 * b) (interleaved ex x p) i k (omega arith) ∙ ap (λ (q : ℕ). delayed (40 * (18 * q)) (permuted ex x p) k) row
    ∙ delayed_same (40 * (18 * r)) (40 * d) (permuted ex x p) k i (omega arith)) (lt_or_le i (40 * b))
  where
    i : ℕ
    i = 40 * m + c
