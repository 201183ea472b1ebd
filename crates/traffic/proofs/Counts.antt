-- What the checker counts: lanes compared with lanes sent from the right bit on are compared with what was sent 36 blocks before.
-- `Compared`, `CountsExactly`, `ChecksExist`.
-- Assumes nothing.
use mathlib.Core.Path.{◌≡◌, refl, sym, ap, ap₂, ◌∙◌}
use mathlib.Core.Bool.{not, ◌&&◌}
use mathlib.Core.List.{List}
use Prim.Native.Nat.{ℕ, zero, suc, ◌+◌, ◌*◌, ◌-◌, ◌≤◌, ◌<◌}
use native.Mathlib.Decide.{dec_lt}
use native.Mathlib.Omega.{arith}
use lib.Dec.{eqb, ltb}
use lib.ListN.{length}
use Rattle.std.specs.Array.{IsWholeChunk}
use borrow.Author.Tests.{lt-ltb, le-ltb}
use Rattle.bits.specs.definitions.Bits.{tabulate, bit_at, count}
use Rattle.bits.specs.definitions.Call.{unless}
use Rattle.bits.proofs.Calls.{passed, written}
use Rattle.bits.proofs.Count.{count_cong}
use Rattle.bits.proofs.Tabulate.{tabulate_cong}
use Rattle.lanes.specs.definitions.Stream.{stream_bit}
use Rattle.lanes.proofs.Stream.{stream_cut}
use Rattle.traffic.specs.definitions.Register.{seed, state_after, bit_from, traffic_bit}
use Rattle.traffic.specs.definitions.Traffic.{placed, traffic_from}
use Rattle.traffic.specs.definitions.Checker.{wrong_bit, wrong_counts, Checks}
use Rattle.traffic.specs.private.Counting.{differs}
use Rattle.traffic.specs.statements.Checker.{Compared, CountsExactly, ChecksExist}
use Rattle.traffic.proofs.Frames.{placed_later, from_placed, stream_placed}

-- ---- a call of the checker: refused, done, and what it leaves

checks_done : (f : ℕ) (lanes c c' : List ℕ) → length lanes ≡ 5280 → length c ≡ 32 → c' ≡ wrong_counts f lanes → Checks f lanes c 0 c'
checks_done f lanes c c' h h' q =
    let e = passed 5280 lanes 1 (unless 32 c 3 0) h ∙ passed 32 c 3 0 h' in
    record { number = sym e; counts = q ∙ sym (written _ _ c e) }

-- what a call left that was lent the right lengths
pub checks_left : (f : ℕ) (lanes c : List ℕ) (r : ℕ) (c' : List ℕ) → length lanes ≡ 5280 → length c ≡ 32 → Checks f lanes c r c'
    → (r ≡ 0) × (c' ≡ wrong_counts f lanes)
checks_left f lanes c r c' h h' C =
    let e = passed 5280 lanes 1 (unless 32 c 3 0) h ∙ passed 32 c 3 0 h' in
    (C.number ∙ e, C.counts ∙ written _ _ c e)

-- ---- the checker's fill and start, by arithmetic

-- so many bytes of each lane of recovered frame f are fill: all 165 of frame 0, three blocks of frame 1, and none of later ones
pub record FillOf (f fill : ℕ) : Type 0 where
  pub none : f ≡ 0 → fill ≡ 165
  pub first : f ≡ 1 → fill ≡ 15
  pub later : 1 < f → fill ≡ 0

before_fill : (f fill i : ℕ) → FillOf f fill → i < 1320 → 1320 * f + i < 1440 → i < 8 * fill
before_fill zero fill i F hi h = omega (arith, F.none refl)
before_fill (suc zero) fill i F hi h = omega (arith, F.first refl)
before_fill (suc (suc f)) fill i F hi h = absurd (omega arith)

-- behind the fill, bits are counted from 144 symbols before the frame on
behind_fill : (f fill i : ℕ) → FillOf f fill → i < 1320 → 1440 ≤ 1320 * f + i
    → (8 * fill ≤ i) × (10 * (132 * f - 144) + (i - 8 * fill) ≡ 1320 * f + i - 1440)
behind_fill zero fill i F hi h = absurd (omega arith)
behind_fill (suc zero) fill i F hi h = let e = F.first refl in omega arith
behind_fill (suc (suc f)) fill i F hi h = let e = F.later (omega arith) in omega arith

-- ---- bits and counts

-- what is sent in frame f begins here in the stream, or at its beginning
abbrev pub start : ℕ → ℕ
start f = 42240 * f - 46080

module _ (f fill : ℕ) (lanes sent : List ℕ) (F : FillOf f fill) (is : sent ≡ traffic_from (state_after (start f))) where
  -- behind the fill it is what was sent 1,440 bits before
  sent_bit_lem : (p i : ℕ) → p < 32 → i < 1320 → 1440 ≤ 1320 * f + i → bit_at sent (1320 * p + (i - 8 * fill)) ≡ placed traffic_bit p (1320 * f + i - 1440)
  sent_bit_lem p i hp hi h =
      let b = behind_fill f fill i F hi h in
      let m : ℕ = 132 * f - 144 in
      let k : ℕ = i - 8 * fill in
      let s : start f ≡ 320 * (132 * f - 144) = omega arith in
      ap (λ (l : List ℕ). bit_at l (1320 * p + k)) is
      ∙ from_placed (state_after (start f)) p k hp (omega arith) ∙ ap (λ (n : ℕ). placed (bit_from (state_after n)) p k) s
      ∙ sym (placed_later seed p m k) ∙ ap (placed traffic_bit p) b.1

  differs_wrong : (p i : ℕ) → p < 32 → i < 1320 → differs fill lanes sent p i ≡ wrong_bit f lanes p i
  unfolding differs wrong_bit
  differs_wrong p i hp hi = go (dec_lt (1320 * f + i) 1440)
    where
      go : Dec (1320 * f + i < 1440) → differs fill lanes sent p i ≡ wrong_bit f lanes p i
      go (yes h) = rw (lt-ltb i (8 * fill) (before_fill f fill i F hi h), lt-ltb (1320 * f + i) 1440 h)
      go (no h) =
          let l : 1440 ≤ 1320 * f + i = omega arith in
          rw (le-ltb i (8 * fill) (behind_fill f fill i F hi l).0, le-ltb (1320 * f + i) 1440 l, sent_bit_lem p i hp hi l)

  -- so the counts of the lanes are those of the wrong bits
  counts_wrong : tabulate 32 (λ p. count (differs fill lanes sent p) 1320) ≡ wrong_counts f lanes
  unfolding wrong_counts
  counts_wrong = tabulate_cong 32 _ _ (λ p hp. count_cong 1320 _ _ (λ i hi. differs_wrong p i hp hi))

-- and so a call that compares with the frame from the right state on counts them
pub checks_counted : {f fill : ℕ} (lanes c : List ℕ) {lent sent c' : List ℕ} → IsWholeChunk lanes lent 5280 → length c ≡ 32 → FillOf f fill
    → sent ≡ traffic_from (state_after (start f)) → c' ≡ tabulate 32 (λ p. count (differs fill lent sent p) 1320) → Checks f lanes c 0 c'
checks_counted {f} {fill} lanes c {lent} {sent} {c'} whole hc F is counted =
    checks_done f lanes c c' whole.long hc
    (counted ∙ ap (λ (l : List ℕ). tabulate 32 (λ p. count (differs fill l sent p) 1320)) whole.same ∙ counts_wrong f fill lanes sent F is)

pub what_is_compared : Compared
what_is_compared = (
  λ i h. ap not (lt-ltb (1320 * 0 + i) 1440 (omega arith)),
  λ i. ap not (one i (dec_lt i 120)),
  λ f i h. ap not (le-ltb (1320 * f + i) 1440 (omega arith)),
)
  where
    one : (i : ℕ) → Dec (i < 120) → ltb (1320 * 1 + i) 1440 ≡ ltb i 120
    one i (yes h) = let b : 1320 * 1 + i < 1440 = omega arith in lt-ltb (1320 * 1 + i) 1440 b ∙ sym (lt-ltb i 120 h)
    one i (no h) =
        let b : 1440 ≤ 1320 * 1 + i = omega arith in
        let c : 120 ≤ i = omega arith in
        le-ltb (1320 * 1 + i) 1440 b ∙ sym (le-ltb i 120 c)

pub counts_exactly : CountsExactly
unfolding wrong_counts wrong_bit
counts_exactly n outs sent G back f hf long c r c' C lent =
    let d = checks_left f (back f) c r c' long lent C in
    (d.0, d.1 ∙ tabulate_cong 32 _ _ (λ p hp. count_cong 1320 _ _ (λ i hi. same p i hp hi)))
  where
    same : (p i : ℕ) → p < 32 → i < 1320
        → wrong_bit f (back f) p i ≡ (not (ltb (1320 * f + i) 1440) && not (eqb (stream_bit back p (1320 * f + i)) (stream_bit sent p (1320 * f + i - 1440))))
    same p i hp hi =
        ap₂ (λ (x y : ℕ). not (ltb (1320 * f + i) 1440) && not (eqb x y)) (stream_cut back f p i hi)
        (sym (stream_placed n outs sent G p (1320 * f + i - 1440) hp (omega arith)))

pub checks_exist : ChecksExist
checks_exist f lanes c = (_, _, record { number = refl; counts = refl })
