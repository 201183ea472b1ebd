-- `CarriesExactly`; and `ReedSolomonBound` with the four pairs: a wrong symbol goes to the word that carries it, which more than two flips hit, and no two of a
-- codeword to one.
-- Assumes nothing.
use mathlib.Core.Path.{◌≡◌, refl, sym, ap, ap₂, ◌∙◌, subst}
use mathlib.Core.Logic.{◌≢◌, ⊎_elim}
use mathlib.Core.Bool.{Bool, true, false, not, cond, ◌&&◌, false≢true}
use mathlib.Core.List.{List}
use Prim.Native.Nat.{ℕ, zero, suc, ◌+◌, ◌*◌, ◌-◌, ◌/◌, ◌%◌, ◌^◌, ◌≤◌, ◌<◌}
use native.Mathlib.Nat.{zero-div}
use native.Mathlib.Omega.{arith}
use lib.Dec.{T, eqb, ltb}
use lib.Bits.{differ}
use borrow.Author.Tests.{ltb-true, ltb-false, eqb-true, eqb-false, not-true, lt-ltb, eq-eqb}
use Rattle.bits.specs.definitions.Bits.{bit_of}
use Rattle.bits.proofs.Count.{count_some, count_pos}
use Rattle.decoder.proofs.Theorems.{two_vanish}
use Rattle.lanes.specs.definitions.Permutation.{Lanes, Places, named, permuted}
use Rattle.lanes.specs.definitions.Stream.{stream_bit, delayed, interleaved}
use Rattle.lanes.specs.private.Stream.{deinterleaved}
use Rattle.lanes.proofs.Rows.{lt_or_le, delayed_early, delayed_at}
use Rattle.lanes.proofs.Return.{across, across_lt, across_place, permuted_across, carried, fetched}
use Rattle.symbols.specs.definitions.Frame.{arrived}
use Rattle.symbols.proofs.Return.{arrived_lt}
use Rattle.framing.specs.definitions.Receive.{brought_lanes}
use Rattle.framing.proofs.Stream.{block_rule}
use Rattle.framing.proofs.Received.{passed_on, brought_bit}
use Rattle.demands.specs.definitions.Trial.{Trial, Accepted, flips_in}
use Rattle.demands.specs.definitions.ReedSolomon.{Labels, Labelled, carries, Has, heavy, heavy_words, wrong_symbol, wrong_symbols}
use Rattle.demands.specs.statements.ReedSolomon.{CarriesExactly, ReedSolomonBound, Bounded, FourPairs}
use Rattle.demands.proofs.Trial.{differs_by}
use Rattle.demands.proofs.LaneCounts.{both, left, right, lanes_inject}
use Rattle.demands.proofs.Labels.{slot, spans_label, one_a_word}

-- bit k of symbol s stands in the lane that carries it as bit k of symbol slot s, so in word slot s / 11
placed : (s k : ℕ) → k < 10 → 10 * s + k + 720 * ((10 * s + k) / 40 % 3) ≡ 110 * (slot s / 11) + (10 * (slot s % 11) + k)
placed s k h =
    let block : (10 * s + k) / 40 ≡ s / 4 = omega arith in
    let parts : slot s ≡ 11 * (slot s / 11) + slot s % 11 = omega arith in
    ap (λ (b : ℕ). 10 * s + k + 720 * (b % 3)) block ∙ omega arith

-- the word that carries a symbol carries a symbol of its codeword
carries_its : (ex : Places) (label : Labels) (p s : ℕ) → p < 32 → carries ex label (label p s) (across ex p s) (slot s / 11) ≡ true
unfolding carries
carries_its ex label p s h =
    let x : Lanes = λ p i. suc (label p (i / 10)) in
    let i = 10 * s + 0 in
    let symbol : i / 10 ≡ s = omega arith in
    lt-ltb 0 _
    (count_pos (λ q. eqb (interleaved ex x (across ex p s) (110 * (slot s / 11) + q)) (suc (label p s))) 110 (10 * (slot s % 11) + 0) (omega arith)
    (eq-eqb _ _
    (ap₂ (interleaved ex x) (ap (across ex p) (sym symbol)) (sym (placed s 0 (omega arith))) ∙ carried ex x p i h ∙ ap (λ (t : ℕ). suc (label p t)) symbol)))

same_place : (u r : ℕ) → 72 * r ≤ u → (u - 72 * r) % 4 ≡ u % 4
same_place u r l = omega arith

-- symbol u of an interleaved lane, where it is no fill, is a symbol of the lanes
slot_bit : (ex : Places) (x : Lanes) (p u b : ℕ) → b < 10 → 72 * (u / 4 % 3) ≤ u
    → interleaved ex x p (10 * u + b) ≡ x (across ex p u) (10 * (u - 72 * (u / 4 % 3)) + b)
unfolding interleaved
slot_bit ex x p u b h l =
    let i = 10 * u + b in
    let r = u / 4 % 3 in
    let j = 10 * (u - 72 * r) + b in
    let row : i / 40 ≡ u / 4 = omega arith in
    let d : i ≡ j + 40 * (18 * r) = omega arith in
    let symbol : j / 10 ≡ u - 72 * r = omega arith in
    ap (λ (m : ℕ). delayed (40 * (18 * (m % 3))) (permuted ex x p) i) row ∙ delayed_at (40 * (18 * r)) (permuted ex x p) i j d
    ∙ permuted_across ex x p j ∙ ap (λ (q : ℕ). x q j) (across_place ex p (j / 10) u (ap (λ (m : ℕ). m % 4) symbol ∙ same_place u r l))

slot_fill : (ex : Places) (x : Lanes) (p u b : ℕ) → b < 10 → u < 72 * (u / 4 % 3) → interleaved ex x p (10 * u + b) ≡ 0
unfolding interleaved
slot_fill ex x p u b h l =
    let i = 10 * u + b in
    let row : i / 40 ≡ u / 4 = omega arith in
    ap (λ (m : ℕ). delayed (40 * (18 * (m % 3))) (permuted ex x p) i) row ∙ delayed_early (40 * (18 * (u / 4 % 3))) (permuted ex x p) i (omega arith)

abbrev marks : Labels → Lanes
marks label lane i = suc (label lane (i / 10))

-- a word at whose bit j the label of c stands has the symbol that stands there
module _ (ex : Places) (n : ℕ) (label : Labels) (c p w j : ℕ) (hp : p < 32) (hw : w < 12 * n) (hj : j < 110) where
  u : ℕ
  u = 11 * w + j / 10

  abbrev Found : Type 0
  Found = (k : ℕ) × (q : ℕ) × (s : ℕ) × (k < 11) × (q < 32) × (s < 132 * n) × (label q s ≡ c) × Has ex n p w k q s

  mark : interleaved ex (marks label) p (110 * w + j) ≡ suc c → interleaved ex (marks label) p (10 * u + j % 10) ≡ suc c
  unfolding u
  mark e = let here : 10 * (11 * w + j / 10) + j % 10 ≡ 110 * w + j = omega arith in ap (interleaved ex (marks label) p) here ∙ e

  filled : interleaved ex (marks label) p (110 * w + j) ≡ suc c → u < 72 * (u / 4 % 3) → Found
  filled e l = let z : 0 ≡ suc c = sym (slot_fill ex (marks label) p u (j % 10) (omega arith) l) ∙ mark e in absurd (omega arith)

  found : interleaved ex (marks label) p (110 * w + j) ≡ suc c → 72 * (u / 4 % 3) ≤ u → Found
  unfolding u
  found e l =
      let s = u - 72 * (u / 4 % 3) in
      let q = across ex p u in
      let symbol : (10 * s + j % 10) / 10 ≡ s = omega arith in
      let is : suc (label q s) ≡ suc c = ap (λ (t : ℕ). suc (label q t)) (sym symbol) ∙ sym (slot_bit ex (marks label) p u (j % 10) (omega arith) l)
      ∙ mark e in (
        j / 10,
        q,
        s,
        omega arith,
        across_lt ex p u hp,
        omega arith,
        omega arith,
        λ lanes room numbers frames stores S b hb.
            let here : 110 * w + (10 * (j / 10) + b) ≡ 10 * u + b = omega arith in
            (block_rule ex n lanes room numbers frames stores S).2 p w (10 * (j / 10) + b) hp hw (omega arith)
            ∙ ap (interleaved ex (stream_bit lanes) p) here ∙ slot_bit ex (stream_bit lanes) p u b hb l,
      )

pub carries_exactly : CarriesExactly
unfolding carries
carries_exactly ex n label = (
  λ c p w hp hw y.
      let r = count_some (λ q. eqb (interleaved ex (marks label) p (110 * w + q)) (suc c)) 110 (ltb-true 0 _ y) in
      let e = eqb-true (interleaved ex (marks label) p (110 * w + r.0)) (suc c) r.2 in
      ⊎_elim (filled ex n label c p w r.0 hp hw r.1 e) (found ex n label c p w r.0 hp hw r.1 e)
      (lt_or_le (u ex n label c p w r.0 hp hw r.1) (72 * (u ex n label c p w r.0 hp hw r.1 / 4 % 3))),
  λ q s hq hs. (
    slot s % 11,
    across ex q s,
    slot s / 11,
    omega arith,
    across_lt ex q s hq,
    omega arith,
    carries_its ex label q s hq,
    λ lanes room numbers frames stores S b hb.
        let i = 10 * s + b in
        let symbol : i / 10 ≡ s = omega arith in
        (block_rule ex n lanes room numbers frames stores S).2 (across ex q s) (slot s / 11) (10 * (slot s % 11) + b) (across_lt ex q s hq) (omega arith)
        (omega arith)
        ∙ ap₂ (interleaved ex (stream_bit lanes)) (ap (across ex q) (sym symbol)) (sym (placed s b hb)) ∙ carried ex (stream_bit lanes) q i hq,
  ),
)

-- a word is heavy exactly where more than two flips hit it
pub heavy_more : (flips : ℕ → List ℕ) (p w : ℕ) → heavy flips p w ≡ true → 2 < flips_in flips p w
unfolding heavy
heavy_more flips p w e = omega (arith, ltb-true)

light_two : (flips : ℕ → List ℕ) (p w : ℕ) → heavy flips p w ≡ false → flips_in flips p w ≤ 2
unfolding heavy
light_two flips p w e = omega (arith, ltb-false)

-- what at most two flips leave of a word is nothing
left_nothing : (flips : ℕ → List ℕ) (q w k : ℕ) → q < 32 → k < 110 → flips_in flips q w ≤ 2 → stream_bit (λ f. brought_lanes (flips f)) q (110 * w + k) ≡ 0
unfolding flips_in passed_on bit_of
left_nothing flips q w k hq hk two =
    let i = 110 * w + k in
    let e = arrived (flips (w / 12)) (32 * (w % 12) + q) in
    let frame : i / 1320 ≡ w / 12 = omega arith in
    let word : 32 * (i % 1320 / 110) + q ≡ 32 * (w % 12) + q = omega arith in
    brought_bit flips q i hq ∙ ap₂ (λ (f j : ℕ). bit_of 126 (passed_on (arrived (flips f) j)) (i % 110)) frame word
    ∙ ap (λ (v : ℕ). bit_of 126 v (i % 110)) (two_vanish e (arrived_lt (flips (w / 12)) (32 * (w % 12) + q)) two)
    ∙ ap (λ (v : ℕ). v % 2) (zero-div (2 ^ (126 - 1 - i % 110)))

pub differ_none : (x : ℕ) → differ x 0 ≡ x
differ_none zero = refl
differ_none (suc x) = refl

module _ {ex : Places} {n : ℕ} {flips lanes room outs flag_buffers : ℕ → List ℕ} (t : Trial ex n flips lanes room outs flag_buffers)
    (accepted : Accepted t) where
  -- a symbol carried in a word that at most two flips hit comes back right
  right_bit : (p s k : ℕ) → p < 32 → s + 144 < 132 * n → k < 10 → flips_in flips (across ex p s) (slot s / 11) ≤ 2
      → stream_bit t.back p (10 * (s + 144) + k) ≡ stream_bit t.clean_back p (10 * (s + 144) + k)
  right_bit p s k hp hs hk two =
      let i = 10 * s + k in
      let late : 10 * (s + 144) + k ≡ i + 1440 = omega arith in
      let symbol : i / 10 ≡ s = omega arith in
      let left : Lanes = stream_bit (λ f. brought_lanes (flips f)) in
      let none : deinterleaved ex left p (10 * (s + 144) + k) ≡ 0 =
      ap (deinterleaved ex left p) late ∙ fetched ex left p i ∙ ap₂ left (ap (across ex p) symbol) (placed s k hk)
      ∙ left_nothing flips (across ex p s) (slot s / 11) (10 * (slot s % 11) + k) (across_lt ex p s hp) (omega arith) two in
      differs_by t accepted p (10 * (s + 144) + k) hp (omega arith) ∙ ap (differ (stream_bit t.clean_back p (10 * (s + 144) + k))) none
      ∙ differ_none (stream_bit t.clean_back p (10 * (s + 144) + k))

  -- so a wrong one was carried in a word that more than two hit
  wrong_heavy : (p s : ℕ) → p < 32 → s + 144 < 132 * n → wrong_symbol t.back t.clean_back p s ≡ true
      → heavy flips (across ex p s) (slot s / 11) ≡ true
  unfolding wrong_symbol
  wrong_heavy p s hp hs wrong = go (heavy flips (across ex p s) (slot s / 11)) refl
    where
      go : (b : Bool) → heavy flips (across ex p s) (slot s / 11) ≡ b → b ≡ true
      go true e = refl
      go false e =
          let r = count_some (λ k. not (eqb (stream_bit t.back p (10 * (s + 144) + k)) (stream_bit t.clean_back p (10 * (s + 144) + k)))) 10
          (ltb-true 0 _ wrong) in
          absurd (eqb-false (stream_bit t.back p (10 * (s + 144) + r.0)) (stream_bit t.clean_back p (10 * (s + 144) + r.0)) (not-true _ r.2)
          (right_bit p s r.0 hp hs r.1 (light_two flips (across ex p s) (slot s / 11) e)))

  -- the tests that are counted
  module _ (label : Labels) (c : ℕ) where
    abbrev wrong : ℕ → ℕ → Bool
    wrong p s = ltb (s + 144) (132 * n) && wrong_symbol t.back t.clean_back p s && eqb (label p s) c

    abbrev carrier : ℕ → ℕ → Bool
    carrier p w = heavy flips p w && carries ex label c p w

    returned : (p s : ℕ) → wrong p s ≡ true → s + 144 < 132 * n
    returned p s w = ltb-true (s + 144) (132 * n) (left (ltb (s + 144) (132 * n)) _ (left _ (eqb (label p s) c) w))

    symbol_of_lem : (p s : ℕ) → wrong p s ≡ true → label p s ≡ c
    symbol_of_lem p s w = eqb-true (label p s) c (right (ltb (s + 144) (132 * n) && wrong_symbol t.back t.clean_back p s) (eqb (label p s) c) w)

    its_word : (p s : ℕ) → p < 32 → wrong p s ≡ true → (across ex p s < 32) × (slot s / 11 < 12 * n) × (carrier (across ex p s) (slot s / 11) ≡ true)
    its_word p s hp w =
        let h : s + 144 < 132 * n = returned p s w in (
          across_lt ex p s hp,
          omega arith,
          both (wrong_heavy p s hp h (right (ltb (s + 144) (132 * n)) _ (left _ (eqb (label p s) c) w)))
              (subst (λ (d : ℕ). carries ex label d (across ex p s) (slot s / 11) ≡ true) (symbol_of_lem p s w) (carries_its ex label p s hp)),
        )

    bound : ex 0 ≢ ex 2 → ex 1 ≢ ex 3 → Labelled n label → wrong_symbols n t.back t.clean_back label c ≤ heavy_words ex n flips label c
    unfolding heavy_words wrong_symbols
    bound even odd L =
        lanes_inject wrong (132 * n) carrier (12 * n) (across ex) (λ _ s. slot s / 11) (λ p s hp hs. its_word p s hp)
        (λ p q s u hp hq hs hu w v. one_a_word ex even odd n label L p q s u hp hq hs hu (symbol_of_lem p s w ∙ sym (symbol_of_lem q u v)))

pub reed_solomon_bound : ReedSolomonBound
reed_solomon_bound ex even odd n flips lanes room outs flag_buffers t accepted label L c = bound t accepted label c even odd L

-- ---- the four pairs

-- one of two places is exchanged, and the other is not
abbrev apart : Bool → Bool → Bool
apart a b = cond a (not b) b

apart_differ : (a b : Bool) → T (apart a b) → a ≢ b
apart_differ true true t e = t
apart_differ true false t e = false≢true (sym e)
apart_differ false true t e = false≢true e
apart_differ false false t e = t

bounded : (ex : Places) → T (apart (ex 0) (ex 2)) → T (apart (ex 1) (ex 3)) → Bounded ex
bounded ex even odd n flips lanes room outs flag_buffers t accepted before label S =
    reed_solomon_bound ex (apart_differ (ex 0) (ex 2) even) (apart_differ (ex 1) (ex 3) odd) n flips lanes room outs flag_buffers t accepted label
    (spans_label n before label S)

-- in each pair one of 0 and 2, and one of 1 and 3
pub four_pairs : FourPairs
unfolding named
four_pairs = (bounded _ tt tt, bounded _ tt tt, bounded _ tt tt, bounded _ tt tt)
