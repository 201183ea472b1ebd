-- Why words 0 to 13 of each lane are not tallied: `FillBits`, by the block rule; `FillWords` and `TalliedExactly`, by counting blocks.
-- Assumes nothing.
use mathlib.Core.Path.{◌≡◌, refl, sym, ◌∙◌}
use mathlib.Core.Bool.{Bool, true, false}
use mathlib.Core.List.{List}
use Prim.Native.Nat.{ℕ, zero, suc, ◌+◌, ◌*◌, ◌-◌, ◌/◌, ◌%◌, ◌^◌, ◌≤◌, ◌<◌}
use native.Mathlib.Decide.{dec_lt}
use native.Mathlib.Omega.{arith}
use lib.Dec.{leb}
use lib.ListN.{length}
use borrow.Author.Tests.{lt-ltb, ltb-true, ltb-false, le-leb, leb-true, lt-leb, leb-false}
use Rattle.bits.proofs.Fields.{length_bytes}
use Rattle.lanes.specs.definitions.Permutation.{Places, permuted, lane_bytes}
use Rattle.lanes.specs.definitions.Stream.{stream_bit, interleaved}
use Rattle.lanes.proofs.Bytewise.{frame_bit}
use Rattle.lanes.proofs.Rows.{delayed_early, delayed_at}
use Rattle.lanes.proofs.Return.{across, across_lt, permuted_across}
use Rattle.framing.proofs.Stream.{block_rule}
use Rattle.account.specs.declared.Account.{Account}
use Rattle.account.specs.definitions.Account.{ahead, tallied}
use Rattle.account.proofs.Fill.{at_start, at_next, at_later}
use Rattle.capture.specs.definitions.Capture.{frame_number}
use Rattle.demands.specs.definitions.Fill.{is_fill, CarriesFill, free_of_fill, AlwaysCarries}
use Rattle.demands.specs.statements.Fill.{FillBits, FillWords, TalliedExactly}
use Rattle.demands.proofs.Trial.{undamaged_exist}

-- ---- a bit of an interleaved lane

-- by so many bits it is delayed
abbrev delay : ℕ → ℕ
delay i = 40 * (18 * (i / 40 % 3))

module _ (ex : Places) (x : ℕ → ℕ → ℕ) (p i : ℕ) where
  from_before : is_fill i ≡ true → interleaved ex x p i ≡ 0
  unfolding interleaved
  from_before e = let h = ltb-true (i / 40) (18 * (i / 40 % 3)) e in delayed_early (delay i) (permuted ex x p) i (omega arith)

  from_stream : is_fill i ≡ false → interleaved ex x p i ≡ x (across ex p ((i - delay i) / 10)) (i - delay i)
  unfolding interleaved
  from_stream e =
      let h = ltb-false (i / 40) (18 * (i / 40 % 3)) e in
      delayed_at (delay i) (permuted ex x p) i (i - delay i) (omega arith) ∙ permuted_across ex x p (i - delay i)

pub fill_bits_lem : FillBits
fill_bits_lem ex p w q hp hq =
    let i = 110 * w + q in
    let j = i - delay i in (
      λ e n lanes room numbers frames stores S h.
          (block_rule ex n lanes room numbers frames stores S).2 p w q hp h hq ∙ from_before ex (stream_bit lanes) p i e,
      λ e. (
        across ex p (j / 10),
        j,
        across_lt ex p (j / 10) hp,
        omega arith,
        λ n lanes room numbers frames stores S h.
            (block_rule ex n lanes room numbers frames stores S).2 p w q hp h hq ∙ from_stream ex (stream_bit lanes) p i e,
      ),
    )

-- ---- the words that carry fill

-- the last block from before the stream is block 35
below_14 : (w : ℕ) → CarriesFill w → w < 14
below_14 w (q, h, e) = let l = ltb-true ((110 * w + q) / 40) (18 * ((110 * w + q) / 40 % 3)) e in omega arith

-- one of any three blocks is of row 2, and each word has a bit of it
of_row_2 : (b : ℕ) → (b + (2 - b % 3)) % 3 ≡ 2
of_row_2 b = omega arith

in_block : (i b : ℕ) → i / 40 ≤ b → (i + (40 * b - i)) / 40 ≡ b
in_block i b h = omega arith

fill_in : (w : ℕ) → w < 14 → CarriesFill w
fill_in w h =
    let i = 110 * w in
    let b = i / 40 + (2 - i / 40 % 3) in
    let row = of_row_2 (i / 40) in
    let at = in_block i b (omega arith) in
    (40 * b - i, omega arith, lt-ltb ((i + (40 * b - i)) / 40) (18 * ((i + (40 * b - i)) / 40 % 3)) (rw at (rw row (omega arith))))

-- a stream of n frames, every bit of every lane the same
module _ (ex : Places) (n v : ℕ) (hv : v < 2) where
  lanes_of_lem : ℕ → List ℕ
  lanes_of_lem _ = lane_bytes (λ _ _. v)

  every_bit : (p i : ℕ) → p < 32 → stream_bit lanes_of_lem p i ≡ v
  unfolding stream_bit lanes_of_lem
  every_bit p i h = frame_bit (λ _ _. v) (λ _ _. hv) p (i % 1320) h (omega arith)

  whole : (f : ℕ) → f < n → length (lanes_of_lem f) ≡ 5280
  unfolding lanes_of_lem lane_bytes
  whole f h = length_bytes 5280 (λ _. v)

  -- what is always c, and always a bit of the stream, is v there
  is_sent : (p w q p' i c : ℕ) → w < 12 * n → p' < 32 → AlwaysCarries ex p w q (λ lanes. stream_bit lanes p' i) → AlwaysCarries ex p w q (λ lanes. c) → v ≡ c
  is_sent p w q p' i c h hp A C =
      let (sent_numbers, numbers, back, flag_bytes, U) = undamaged_exist ex n lanes_of_lem whole in
      sym (every_bit p' i hp) ∙ sym (A n lanes_of_lem _ sent_numbers U.frames U.sent_stores U.sent h)
      ∙ C n lanes_of_lem _ sent_numbers U.frames U.sent_stores U.sent h

-- so a bit of the stream, which can be 0 and can be 1, is not always the same
not_always : (ex : Places) (p w q p' i c : ℕ) → p' < 32 → AlwaysCarries ex p w q (λ lanes. stream_bit lanes p' i) → AlwaysCarries ex p w q (λ lanes. c) → ⊥
not_always ex p w q p' i c hp A C =
    let n = suc (w / 12) in
    let one = is_sent ex n 1 (omega arith) p w q p' i c (omega arith) hp A C in
    let none = is_sent ex n 0 (omega arith) p w q p' i c (omega arith) hp A C in
    omega arith

pub fill_words : FillWords
fill_words w = (
  (below_14 w, fill_in w),
  λ ex p hp. (
    λ (q, hq, v, A). changeless ex p hp q hq v A (is_fill (110 * w + q)) refl,
    λ h. let (q, hq, e) = fill_in w h in (q, hq, 0, (fill_bits_lem ex p w q hp hq).0 e),
  ),
)
  where
    changeless : (ex : Places) (p : ℕ) → p < 32 → (q : ℕ) → q < 110 → (v : ℕ) → AlwaysCarries ex p w q (λ lanes. v)
        → (b : Bool) → is_fill (110 * w + q) ≡ b → w < 14
    changeless ex p hp q hq v A true e = below_14 w (q, hq, e)
    changeless ex p hp q hq v A false e = let (p', i, hp', hi, B) = (fill_bits_lem ex p w q hp hq).1 e in absurd (not_always ex p w q p' i v hp' B A)

-- ---- and so what is tallied

pub tallied_free : (a : Account) (got k i : ℕ) → ahead got a.start ≡ k → i < 384 → tallied a got i ≡ free_of_fill k i
tallied_free a got zero i e h = at_start a got false (leb 64 i) true e ∙ sym (lt-leb 14 (12 * 0 + i / 32) (omega arith))
tallied_free a got (suc zero) i e h = at_next a got false (leb 64 i) true e ∙ go (dec_lt i 64)
  where
    go : Dec (i < 64) → leb 64 i ≡ leb 14 (12 * 1 + i / 32)
    go (yes l) = lt-leb 64 i l ∙ sym (lt-leb 14 (12 * 1 + i / 32) (omega arith))
    go (no l) = le-leb 64 i (omega arith) ∙ sym (le-leb 14 (12 * 1 + i / 32) (omega arith))
tallied_free a got (suc (suc k)) i e h =
    at_later a got false (leb 64 i) true (omega arith) ∙ sym (le-leb 14 (12 * suc (suc k) + i / 32) (omega arith))

-- a number in its turn
pub turn_is : (start k : ℕ) → start < 2 ^ 32 → k < 2 ^ 32 → ahead (frame_number start k) start ≡ k
unfolding ahead
turn_is start k hs hk = omega arith

pub tallied_exactly : TalliedExactly
tallied_exactly a k i hs hk h =
    let w = 12 * k + i / 32 in (
      tallied_free a (frame_number a.start k) k i (turn_is a.start k hs hk) h,
      (
        λ e c. let l = leb-true 14 w e in let m = below_14 w c in omega arith,
        λ n. le-leb 14 w (later n (dec_lt w 14)),
      ),
      λ ex. (
        λ e. ((fill_words w).1 ex (i % 32) (omega arith)).1 (leb-false 14 w e),
        λ c. lt-leb 14 w (((fill_words w).1 ex (i % 32) (omega arith)).0 c),
      ),
    )
  where
    later : (CarriesFill (12 * k + i / 32) → ⊥) → Dec (12 * k + i / 32 < 14) → 14 ≤ 12 * k + i / 32
    later n (yes l) = absurd (n (fill_in (12 * k + i / 32) l))
    later n (no l) = omega arith
