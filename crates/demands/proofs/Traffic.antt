-- Test traffic over the line: undamaged it comes back 1,440 bits later, so that to differ from what was sent so long before is to differ from the undamaged.
-- `TrafficReturns`, `TrafficHit`, `WrongTest` and `TrafficSpeaks`.
-- Assumes nothing.
use mathlib.Core.Path.{◌≡◌, refl, sym, ap, ◌∙◌}
use mathlib.Core.Bool.{Bool, true, false, not, ◌&&◌, and-false}
use mathlib.Core.List.{List}
use Prim.Native.Nat.{ℕ, ◌+◌, ◌*◌, ◌-◌, ◌≤◌, ◌<◌}
use native.Mathlib.Omega.{arith}
use lib.Dec.{eqb, ltb}
use borrow.Author.Tests.{ltb-false, le-ltb, eqb-false, not-true, eq-eqb, ne_eqb}
use lib.ListN.{length, replicate, length-replicate, get_or-replicate}
use Rattle.bits.specs.definitions.Bits.{tabulate, count}
use Rattle.bits.proofs.Tabulate.{tabulate_cong, is_tabulate}
use Rattle.bits.proofs.Count.{count_cong, count_none}
use Rattle.lanes.specs.definitions.Permutation.{Places}
use Rattle.lanes.specs.definitions.Stream.{stream_bit}
use Rattle.traffic.specs.definitions.Traffic.{Generated}
use Rattle.traffic.specs.definitions.Checker.{compared, Checks}
use Rattle.traffic.proofs.Counts.{counts_exactly}
use Rattle.framing.proofs.Receiving.{lanes_length}
use Rattle.framing.proofs.Received.{call_done}
use Rattle.demands.specs.definitions.Return.{Undamaged}
use Rattle.demands.specs.definitions.Trial.{hit}
use Rattle.demands.specs.definitions.Traffic.{is_wrong, wrong_in_lane}
use Rattle.demands.specs.statements.Traffic.{TrafficReturns, TrafficHit, WrongTest, TrafficSpeaks}
use Rattle.demands.proofs.Return.{return}
use Rattle.demands.proofs.Trial.{accepted_lent}
use Rattle.demands.proofs.OneForAll.{one_for_all}

-- ---- tests

-- the second of two tests matters only where the first passes
where_passed : (a : Bool) {b c : Bool} → (a ≡ true → b ≡ c) → (a && b) ≡ (a && c)
where_passed true e = e refl
where_passed false e = refl

-- a number does not differ from itself
itself : (a : Bool) (x : ℕ) → (a && not (eqb x x)) ≡ false
itself a x = rw (eq-eqb x x refl) (and-false a)

-- tests that pass together are equal
together : (a b : Bool) → (a ≡ true → b ≡ true) → (b ≡ true → a ≡ true) → a ≡ b
together true b to from = sym (to refl)
together false true to from = from refl
together false false to from = refl

pub wrong_test : WrongTest
unfolding wrong_in_lane
wrong_test ex n flips lanes room outs flag_buffers t = (
  λ p i.
      let came = stream_bit t.back p i in
      let clean = stream_bit t.clean_back p i in
      (λ w. eqb-false came clean (not-true _ w), λ w. ap not (ne_eqb came clean w)),
  λ f p h. count_cong 1320 _ _ (λ i _. ap (λ (b : Bool). not b && is_wrong t p (1320 * f + i)) (le-ltb (1320 * f + i) 1440 (omega arith))),
)

-- ---- what is counted of test traffic, whatever came back of it

module _ {ex : Places} {n : ℕ} {lanes : ℕ → List ℕ} {sent_numbers numbers : ℕ → ℕ} {clean flag_bytes : ℕ → List ℕ}
    (u : Undamaged ex n lanes sent_numbers numbers clean flag_bytes) where
  -- behind the fill, the bit sent 1,440 bits before is the undamaged one
  sent_before : (p i : ℕ) → p < 32 → 1440 ≤ i → i < 1320 * n → stream_bit lanes p (i - 1440) ≡ stream_bit clean p i
  sent_before p i hp late hi =
      let there : i - 1440 + 1440 ≡ i = omega arith in
      sym ((return ex n lanes sent_numbers numbers clean flag_bytes u).3 p (i - 1440) hp (omega arith)) ∙ ap (stream_bit clean p) there

  -- so that the bits that differ from the undamaged are counted
  counted : (lent : ℕ → List ℕ) → Generated n lent lanes → (back : ℕ → List ℕ) (f : ℕ) → f < n → length (back f) ≡ 5280
      → (c : List ℕ) (r : ℕ) (c' : List ℕ) → Checks f (back f) c r c' → length c ≡ 32
      → (r ≡ 0)
      × (c' ≡ tabulate 32 (λ p. count (λ i. compared f i && not (eqb (stream_bit back p (1320 * f + i)) (stream_bit clean p (1320 * f + i)))) 1320))
  counted lent G back f h whole c r c' C size =
      let e = counts_exactly n lent lanes G back f h whole c r c' C size in
      (e.0, e.1 ∙ tabulate_cong 32 _ _ (λ p hp. count_cong 1320 _ _ (λ i hi. where_passed (compared f i) (same p (1320 * f + i) hp (omega arith)))))
    where
      same : (p i : ℕ) → p < 32 → i < 1320 * n → not (ltb i 1440) ≡ true
          → not (eqb (stream_bit back p i) (stream_bit lanes p (i - 1440))) ≡ not (eqb (stream_bit back p i) (stream_bit clean p i))
      same p i hp hi late = ap (λ (b : ℕ). not (eqb (stream_bit back p i) b)) (sent_before p i hp (ltb-false i 1440 (not-true _ late)) hi)

pub traffic_returns : TrafficReturns
traffic_returns n lent lanes G ex sent_numbers numbers back flag_bytes u f h c r c' C size =
    let whole : length (back f) ≡ 5280 = ((return ex n lanes sent_numbers numbers back flag_bytes u).1 f h).0 in
    let e = counted u lent G back f h whole c r c' C size in (
      e.0,
      e.1
          ∙ sym (is_tabulate 0 (replicate 32 0) 32 _ (length-replicate {A = ℕ} 32 0)
          (λ p hp. get_or-replicate 32 p 0 0 hp ∙ sym (count_none _ 1320 (λ i hi. itself (compared f i) (stream_bit back p (1320 * f + i)))))),
    )

pub traffic_hit : TrafficHit
unfolding wrong_in_lane
traffic_hit n lent lanes G ex flips room outs flag_buffers t accepted f h = counted clean lent G t.back f h whole
  where
    clean : Undamaged ex n lanes t.sent_numbers t.clean_numbers t.clean_back t.clean_flags
    clean =
        record {
          room = room;
          frames = t.frames;
          sent_stores = t.sent_stores;
          sent = t.sent;
          outs = outs;
          flag_buffers = flag_buffers;
          lent = accepted_lent t accepted;
          stores = t.clean_stores;
          received = t.undamaged;
        }

    whole : length (t.back f) ≡ 5280
    whole =
        ap length
        (call_done ex n (λ f. hit (t.frames f) (flips f)) outs flag_buffers t.numbers t.stores t.back t.flag_bytes t.received f h
        (accepted f h)).1
        ∙ lanes_length ex _ (t.stores f)

pub traffic_speaks : TrafficSpeaks
unfolding wrong_in_lane
traffic_speaks n lent lanes G ex flips room outs flag_buffers t accepted lanes' room' outs' flag_buffers' b lengths f h c r c' C size =
    (traffic_hit n lent lanes G ex flips room outs flag_buffers t accepted f h c r c' C size).1
    ∙ tabulate_cong 32 _ _ (λ p hp. count_cong 1320 _ _ (λ i hi. ap (λ (x : Bool). compared f i && x) (alike p (1320 * f + i) hp (omega arith))))
  where
    alike : (p i : ℕ) → p < 32 → i < 1320 * n → is_wrong t p i ≡ is_wrong b p i
    alike p i hp hi =
        let same = (one_for_all ex n flips lanes room outs flag_buffers t lanes' room' outs' flag_buffers' b lengths).2 accepted p i hp hi in
        let ours = (wrong_test ex n flips lanes room outs flag_buffers t).0 p i in
        let theirs = (wrong_test ex n flips lanes' room' outs' flag_buffers' b).0 p i in
        together (is_wrong t p i) (is_wrong b p i) (λ e. theirs.1 (same.0 (ours.0 e))) (λ e. ours.1 (same.1 (theirs.0 e)))
