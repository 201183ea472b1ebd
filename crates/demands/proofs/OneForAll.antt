-- `OneForAll` and `TwoFlips`: numbers depend on lengths and lock, flags and differences on the flips alone.
-- Assumes nothing.
use mathlib.Core.Path.{◌≡◌, refl, sym, ap, ap₂, ◌∙◌, subst}
use mathlib.Core.Logic.{◌≢◌}
use mathlib.Core.List.{List}
use Prim.Native.Nat.{ℕ, zero, suc, ◌+◌, ◌*◌, ◌/◌, ◌%◌, ◌≤◌, ◌<◌}
use native.Mathlib.Omega.{arith}
use lib.ListN.{get_or}
use lib.Bits.{differ}
use Rattle.bits.proofs.Value.{differ_mod}
use Rattle.bits.proofs.Fields.{bit_at_lt}
use Rattle.bch.specs.definitions.Code.{distance}
use Rattle.decoder.proofs.Theorems.{nothing, mends_two}
use Rattle.lanes.specs.definitions.Permutation.{Places}
use Rattle.lanes.specs.definitions.Interleaver.{deinterleaved_frame, deinterleaved_store}
use Rattle.lanes.specs.definitions.Stream.{stream_bit}
use Rattle.lanes.specs.private.Stream.{deinterleaved}
use Rattle.lanes.proofs.Return.{deinterleaved_lt}
use Rattle.symbols.specs.definitions.Frame.{arrived}
use Rattle.symbols.proofs.Return.{arrived_lt}
use Rattle.framing.specs.definitions.Receive.{brought_lanes}
use Rattle.framing.proofs.Received.{flag_at_lem, call_done}
use Rattle.demands.specs.definitions.Trial.{hit, Trial, Accepted, flips_in}
use Rattle.demands.specs.definitions.Trial.{Wrong}
use Rattle.demands.specs.statements.OneForAll.{OneForAll, TwoFlips}
use Rattle.demands.proofs.Hit.{brought_two}
use Rattle.demands.proofs.Trial.{code_words, refused_exactly, flags_of_flips, clean_accepted, differs_by}

-- ---- two trials

-- a difference shows in both or in neither
same_place : (x y x' y' d : ℕ) → y < 2 → y' < 2 → d < 2 → x ≡ differ y d → x' ≡ differ y' d → x ≢ y → x' ≢ y'
same_place x y x' y' d h h' l e e' wrong right =
    let sum : x ≡ (y + d) % 2 = e ∙ differ_mod y d h l in
    let sum' : x' ≡ (y' + d) % 2 = e' ∙ differ_mod y' d h' l in
    let none : d ≡ 0 = omega arith in
    wrong (omega arith)

bit : (frames : ℕ → List ℕ) (p i : ℕ) → stream_bit frames p i < 2
unfolding stream_bit
bit frames p i = bit_at_lt (frames (i / 1320)) (1320 * p + i % 1320)

pub one_for_all : OneForAll
one_for_all ex n flips lanes room outs flag_buffers a lanes' room' outs' flag_buffers' b lengths = (
  numbers,
  λ f h e. flags_of_flips a f h e ∙ sym (flags_of_flips b f h (sym (numbers f h) ∙ e)),
  λ accepted p i hp hi. (places a b accepted (both accepted) p i hp hi, places b a (both accepted) accepted p i hp hi),
)
  where
    numbers : (f : ℕ) → f < n → a.numbers f ≡ b.numbers f
    numbers f h =
        refused_exactly ex n flips lanes room outs flag_buffers a f h ∙ rw ((lengths f h).0, (lengths f h).1) refl
        ∙ sym (refused_exactly ex n flips lanes' room' outs' flag_buffers' b f h)

    both : Accepted a → Accepted b
    both accepted f h = sym (numbers f h) ∙ accepted f h

    places : {lanes room outs flag_buffers lanes' room' outs' flag_buffers' : ℕ → List ℕ} (a : Trial ex n flips lanes room outs flag_buffers)
        (b : Trial ex n flips lanes' room' outs' flag_buffers') → Accepted a → Accepted b → (p i : ℕ) → p < 32 → i < 1320 * n → Wrong a p i → Wrong b p i
    places a b accepted accepted' p i hp hi =
        same_place (stream_bit a.back p i) (stream_bit a.clean_back p i) (stream_bit b.back p i) (stream_bit b.clean_back p i)
        (deinterleaved ex (stream_bit (λ f. brought_lanes (flips f))) p i) (bit a.clean_back p i) (bit b.clean_back p i)
        (deinterleaved_lt ex (stream_bit (λ f. brought_lanes (flips f))) (bit (λ f. brought_lanes (flips f))) p i) (differs_by a accepted p i hp hi)
        (differs_by b accepted' p i hp hi)

-- ---- at most two flips in every word

-- frames that bring the same lanes leave the same stores, call by call, and return the same lanes
module _ {ex : Places} {n : ℕ} {flips lanes room outs flag_buffers : ℕ → List ℕ} (t : Trial ex n flips lanes room outs flag_buffers)
    (light : (f : ℕ) → f < n → (i : ℕ) → i < 384 → distance (arrived (flips f) i) 0 ≤ 2) (accepted : Accepted t) where
  brought : (f : ℕ) → f < n → brought_lanes (hit (t.frames f) (flips f)) ≡ brought_lanes (t.frames f)
  brought f h = brought_two (t.frames f) (flips f) (code_words t f h) (light f h)

  same_store : (f : ℕ) → f ≤ n → t.stores f ≡ t.clean_stores f
  same_store zero h = t.received.fresh ∙ sym t.undamaged.fresh
  same_store (suc f) h =
      (call_done ex n (λ f. hit (t.frames f) (flips f)) outs flag_buffers t.numbers t.stores t.back t.flag_bytes t.received f h (accepted f h)).0
      ∙ ap₂ deinterleaved_store (brought f h) (same_store f (omega arith))
      ∙ sym (call_done ex n t.frames outs flag_buffers t.clean_numbers t.clean_stores t.clean_back t.clean_flags t.undamaged f h
      (clean_accepted t accepted f h)).0

  as_undamaged : (f : ℕ) → f < n → t.back f ≡ t.clean_back f
  as_undamaged f h =
      (call_done ex n (λ f. hit (t.frames f) (flips f)) outs flag_buffers t.numbers t.stores t.back t.flag_bytes t.received f h (accepted f h)).1
      ∙ ap₂ (deinterleaved_frame ex) (brought f h) (same_store f (omega arith))
      ∙ sym (call_done ex n t.frames outs flag_buffers t.clean_numbers t.clean_stores t.clean_back t.clean_flags t.undamaged f h
      (clean_accepted t accepted f h)).1

pub two_flips : TwoFlips
unfolding flips_in
two_flips ex n flips lanes room outs flag_buffers t = (flags, λ two. as_undamaged t (light two))
  where
    light : ((p w : ℕ) → p < 32 → w < 12 * n → distance (arrived (flips (w / 12)) (32 * (w % 12) + p)) 0 ≤ 2)
        → (f : ℕ) → f < n → (i : ℕ) → i < 384 → distance (arrived (flips f) i) 0 ≤ 2
    light two f h i l =
        let frame : (12 * f + i / 32) / 12 ≡ f = omega arith in
        let word : 32 * ((12 * f + i / 32) % 12) + i % 32 ≡ i = omega arith in
        subst (λ (d : ℕ). d ≤ 2) (ap₂ (λ (g k : ℕ). distance (arrived (flips g) k) 0) frame word) (two (i % 32) (12 * f + i / 32) (omega arith) (omega arith))

    flags : (f k p : ℕ) → f < n → t.numbers f ≡ 0 → k < 12 → p < 32 → distance (arrived (flips ((12 * f + k) / 12)) (32 * ((12 * f + k) % 12) + p)) 0 ≤ 2
        → get_or (t.flag_bytes f) (32 * k + p) 0 ≡ distance (arrived (flips ((12 * f + k) / 12)) (32 * ((12 * f + k) % 12) + p)) 0
    flags f k p h e hk hp two =
        let i = 32 * k + p in
        let frame : f ≡ (12 * f + k) / 12 = omega arith in
        let word : i ≡ 32 * ((12 * f + k) % 12) + p = omega arith in
        let same : distance (arrived (flips f) i) 0 ≡ distance (arrived (flips ((12 * f + k) / 12)) (32 * ((12 * f + k) % 12) + p)) 0 =
        ap₂ (λ (g j : ℕ). distance (arrived (flips g) j) 0) frame word in
        ap (λ (g : List ℕ). get_or g i 0) (flags_of_flips t f h e) ∙ flag_at_lem (flips f) i (omega arith)
        ∙ (mends_two 0 (arrived (flips f) i) nothing (arrived_lt (flips f) i) (subst (λ (d : ℕ). d ≤ 2) (sym same) two)).1 ∙ same
