-- `SpansExist`; and `OtherPlaces`: where two places of one parity are on one side, three flips in one word make two symbols of one codeword wrong.
-- Assumes nothing.
use mathlib.Core.Path.{◌≡◌, refl, sym, ap, ap₂, ◌∙◌, subst}
use mathlib.Core.Logic.{◌≢◌, inl, ⊎_elim}
use mathlib.Core.Bool.{Bool, true, false, not, cond, ◌&&◌}
use mathlib.Core.List.{List}
use Prim.Native.Nat.{ℕ, zero, suc, ◌+◌, ◌*◌, ◌/◌, ◌%◌, ◌^◌, ◌<◌}
use native.Mathlib.Decide.{ℕ_discrete}
use native.Mathlib.Omega.{arith}
use lib.Arith.{digits_div, digits_mod}
use lib.Dec.{eqb, ltb, lit<}
use lib.ListN.{length, get_or, replicate, length-replicate}
use lib.Bits.{bit_xor, differ, xor_self, xor_zero_r}
use borrow.Author.Tests.{lt-ltb, eq-eqb, ne_eqb}
use Rattle.bits.specs.definitions.Bits.{bit_of, count}
use Rattle.bits.specs.definitions.Words.{word_at, row_of}
use Rattle.bits.proofs.Words.{row_at_lem}
use Rattle.bits.proofs.Count.{count_none, count_pos}
use Rattle.bits.proofs.Weight.{weight_zero}
use Rattle.bch.specs.definitions.Code.{distance}
use Rattle.decoder.proofs.Distance.{distance_weight}
use Rattle.decoder.proofs.Theorems.{nothing, three_flagged, flagged_passes}
use Rattle.lanes.specs.definitions.Permutation.{Lanes, Places, named, partner}
use Rattle.lanes.specs.definitions.Stream.{stream_bit}
use Rattle.lanes.specs.private.Stream.{deinterleaved}
use Rattle.lanes.proofs.Return.{across, across_lt, across_twice, fetched}
use Rattle.symbols.specs.definitions.Frame.{frame_of, arrived}
use Rattle.pilots.specs.definitions.Table5.{pilots}
use Rattle.pilots.specs.definitions.Pilots.{lock_limit}
use Rattle.symbols.proofs.Return.{frame_pilot, arrived_frame}
use Rattle.framing.specs.definitions.Receive.{brought_lanes}
use Rattle.framing.proofs.Receiving.{all_lengths}
use Rattle.framing.proofs.Received.{passed_on, brought_bit, store_whole}
use Rattle.demands.specs.definitions.Trial.{hit, hit_pilots, Trial, Accepted, flips_in}
use Rattle.demands.specs.definitions.ReedSolomon.{Labels, Spans, carries, heavy, heavy_words, wrong_symbol, wrong_symbols, Exceeded}
use Rattle.demands.specs.statements.ReedSolomon.{SpansExist, OtherPlaces, OtherPairs}
use Rattle.demands.proofs.Hit.{hit_at, hit_word, hit_length, hit_locks}
use Rattle.demands.proofs.Trial.{frame_pilots, differs_by, trials_exist}
use Rattle.demands.proofs.ReedSolomon.{heavy_more, differ_none}
use Rattle.demands.proofs.LaneCounts.{both, left, lanes_one, lanes_two}

-- ---- flips that hit word 0 of lane 0 alone

words : ℕ → List ℕ
words e = row_of 384 (λ i. cond (eqb i 0) e 0)

-- two frames' difference has no pilots
flips_of : ℕ → List ℕ
flips_of e = hit (frame_of (words e)) (frame_of (words 0))

module _ (e : ℕ) (small : e < 2 ^ 126) where
  word_is : (i : ℕ) → i < 384 → word_at (words e) i ≡ cond (eqb i 0) e 0
  unfolding words
  word_is i h = row_at_lem 384 (λ i. cond (eqb i 0) e 0) i h (go (eqb i 0))
    where
      go : (b : Bool) → cond b e 0 < 2 ^ 126
      go true = small
      go false = lit< tt

  arrived_is : (i : ℕ) → i < 384 → arrived (frame_of (words e)) i ≡ cond (eqb i 0) e 0
  arrived_is i h = arrived_frame (words e) i h (subst (λ (w : ℕ). w < 2 ^ 126) (sym (word_is i h)) (go (eqb i 0))) ∙ word_is i h
    where
      go : (b : Bool) → cond b e 0 < 2 ^ 126
      go true = small
      go false = lit< tt

none : (i : ℕ) → i < 384 → arrived (frame_of (words 0)) i ≡ 0
none i h = arrived_is 0 (lit< tt) i h ∙ go (eqb i 0)
  where
    go : (b : Bool) → ◌≡◌ {A = ℕ} (cond b 0 0) 0
    go true = refl
    go false = refl

flips_word : (e : ℕ) → e < 2 ^ 126 → (i : ℕ) → i < 384 → arrived (flips_of e) i ≡ cond (eqb i 0) e 0
unfolding flips_of
flips_word e small i h =
    hit_word (frame_of (words e)) (frame_of (words 0)) i h ∙ ap₂ bit_xor (arrived_is e small i h) (none i h) ∙ xor_zero_r (cond (eqb i 0) e 0)

flips_pilot : (e k : ℕ) → k < 96 → get_or (flips_of e) (64 * k) 0 ≡ 0
unfolding flips_of
flips_pilot e k h =
    hit_at (frame_of (words e)) (frame_of (words 0)) (64 * k) (omega arith) ∙ ap₂ bit_xor (frame_pilot (words e) k h) (frame_pilot (words 0) k h)
    ∙ xor_self (get_or pilots k 0)

-- ---- labels by spans that begin anywhere: span, parity and lane

plain : (ℕ → ℕ) → Labels
plain before p s = ((s + before p) / 68 * 2 + s % 2) * 32 + p

digits : (a b c d p : ℕ) → c < 2 → d < 2 → (a * 2 + c) * 32 + p ≡ (b * 2 + d) * 32 + p → (a ≡ b) × (c ≡ d)
digits a b c d p hc hd e =
    let h : a * 2 + c ≡ b * 2 + d = omega arith in
    (sym (digits_div a hc) ∙ ap (λ (x : ℕ). x / 2) h ∙ digits_div b hd, sym (digits_mod a hc) ∙ ap (λ (x : ℕ). x % 2) h ∙ digits_mod b hd)

other_lane : (a b p : ℕ) → p < 32 → a * 32 + p ≢ b * 32 + partner p
other_lane a b p h e = omega arith

plain_spans : (n : ℕ) (before : ℕ → ℕ) → Spans n before (plain before)
unfolding plain
plain_spans n before =
    record {
      alternate = λ p s t hp hs ht e. (
        λ l. (digits ((s + before p) / 68) ((t + before p) / 68) (s % 2) (t % 2) p (omega arith) (omega arith) l).1,
        λ o. ap₂ (λ (a c : ℕ). (a * 2 + c) * 32 + p) e o,
      );
      one_span = λ p s t hp hs ht l. (digits ((s + before p) / 68) ((t + before p) / 68) (s % 2) (t % 2) p (omega arith) (omega arith) l).0;
      one_of_two = λ p s t hp hs ht. other_lane ((s + before p) / 68 * 2 + s % 2) ((t + before (partner p)) / 68 * 2 + t % 2) p hp;
    }

pub spans_exist : SpansExist
spans_exist n before = (plain before, plain_spans n before)

-- that begin with the stream
abbrev start : Labels
start = plain (λ _. 0)

differ_one : (x : ℕ) → differ x 1 ≢ x
differ_one zero e = omega arith
differ_one (suc x) e = omega (arith, differ_none x)

-- ---- a run of two frames of zeros, the first of them hit

-- e flips three bits of word 0 of lane 0, in symbols s and t of the four that come first; ex has both on one side
module _ (ex : Places) (s t : ℕ) (order : s < t) (four : t < 4) (parity : s % 2 ≡ t % 2) (side : ex s ≡ ex t)
    (e : ℕ) (small : e < 2 ^ 126) (three : distance e 0 ≡ 3) (at-s : bit_of 126 e (10 * s) ≡ 1) (at-t : bit_of 126 e (10 * t) ≡ 1) where
  part : ℕ → ℕ
  part f = cond (eqb f 0) e 0

  part_lt : (f : ℕ) → part f < 2 ^ 126
  unfolding part
  part_lt f = go (eqb f 0)
    where
      go : (b : Bool) → cond b e 0 < 2 ^ 126
      go true = small
      go false = lit< tt

  flips : ℕ → List ℕ
  flips f = flips_of (part f)

  zeros : ℕ → ℕ → List ℕ
  zeros n _ = replicate n 0

  long : (n f : ℕ) → length (zeros n f) ≡ n
  unfolding zeros
  long n f = length-replicate {A = ℕ} n 0

  run : Trial ex 2 flips (zeros 5280) (zeros 6144) (zeros 5280) (zeros 384)
  run = trials_exist ex 2 flips (zeros 5280) (zeros 6144) (zeros 5280) (zeros 384) (λ f h. (long 5280 f, long 6144 f))

  unhit : (f : ℕ) → hit_pilots (flips f) ≡ 0
  unfolding flips hit_pilots
  unhit f =
      count_none (λ k. not (eqb (get_or (flips_of (part f)) (64 * k) 0) 0)) 96
      (λ k l. ap not (eq-eqb (get_or (flips_of (part f)) (64 * k) 0) 0 (flips_pilot (part f) k l)))

  accepted : Accepted run
  accepted f h =
      (run.received.call f h).number
      ∙ all_lengths (hit (run.frames f) (flips f)) (run.stores f) (zeros 5280 f) (zeros 384 f) (hit_length (run.frames f) (flips f))
      (store_whole ex 2 (λ f. hit (run.frames f) (flips f)) (zeros 5280) (zeros 384) run.numbers run.stores run.back run.flag_bytes
      run.received f (omega arith))
      (long 5280 f) (long 384 f)
      ∙ ap (λ (b : Bool). cond b 0 5) (hit_locks (run.frames f) (flips f) (λ k l. frame_pilots run f k h l) ∙ ap (λ (n : ℕ). ltb n lock_limit) (unhit f))

  -- one word is hit by more than two flips
  absent : (p w : ℕ) → p < 32 → 2 < flips_in flips p w → arrived (flips (w / 12)) (32 * (w % 12) + p) ≢ 0
  unfolding flips_in
  absent p w hp heavy z =
      let l : distance (arrived (flips (w / 12)) (32 * (w % 12) + p)) 0 ≡ 0 = ap (λ (v : ℕ). distance v 0) z ∙ distance_weight 0 0 ∙ weight_zero 126 in
      omega arith

  first_only : (p w : ℕ) → p < 32 → 2 < flips_in flips p w → (p ≡ 0) × (w ≡ 0)
  unfolding flips part
  first_only p w hp heavy = go (ℕ_discrete (32 * (w % 12) + p) 0) (ℕ_discrete (w / 12) 0)
    where
      word : arrived (flips (w / 12)) (32 * (w % 12) + p) ≡ cond (eqb (32 * (w % 12) + p) 0) (part (w / 12)) 0
      word = flips_word (part (w / 12)) (part_lt (w / 12)) (32 * (w % 12) + p) (omega arith)

      either : (b : Bool) → ◌≡◌ {A = ℕ} (cond b 0 0) 0
      either true = refl
      either false = refl

      go : Dec (32 * (w % 12) + p ≡ 0) → Dec (w / 12 ≡ 0) → (p ≡ 0) × (w ≡ 0)
      go (yes z) (yes f) = (omega arith, omega arith)
      go (no z) d = absurd (absent p w hp heavy (word ∙ ap (λ (b : Bool). cond b (part (w / 12)) 0) (ne_eqb (32 * (w % 12) + p) 0 z)))
      go (yes z) (no f) =
          absurd (absent p w hp heavy
          (word ∙ ap (λ (b : Bool). cond (eqb (32 * (w % 12) + p) 0) (cond b e 0) 0) (ne_eqb (w / 12) 0 f) ∙ either (eqb (32 * (w % 12) + p) 0)))

  -- and both symbols come back wrong, since a flagged word passes on as received
  flagged : passed_on e ≡ e
  unfolding passed_on
  flagged = flagged_passes e (three_flagged 0 e nothing small three)

  -- the lane whose symbol s goes to lane 0
  lane : ℕ
  lane = across ex 0 s

  lane_lt : lane < 32
  unfolding lane
  lane_lt = across_lt ex 0 s (lit< tt)

  module _ (u : ℕ) (h : u < 4) (same : ex u ≡ ex s) (one : bit_of 126 e (10 * u) ≡ 1) where
    to_first : across ex lane u ≡ 0
    unfolding lane across
    to_first =
        let su : u % 4 ≡ u = omega arith in
        let ss : s % 4 ≡ s = omega arith in
        ap (λ (b : Bool). cond b (partner lane) lane) (ap ex su ∙ same ∙ ap ex (sym ss)) ∙ across_twice ex 0 s (lit< tt)

    -- one bit of what is left of the flips
    left_one : deinterleaved ex (stream_bit (λ f. brought_lanes (flips f))) lane (10 * (u + 144) + 0) ≡ 1
    unfolding flips part
    left_one =
        let left : Lanes = stream_bit (λ f. brought_lanes (flips f)) in
        let i = 10 * u in
        let late : 10 * (u + 144) + 0 ≡ i + 1440 = omega arith in
        let symbol : i / 10 ≡ u = omega arith in
        let place : i + 720 * (i / 40 % 3) ≡ i = omega arith in
        let frame : i / 1320 ≡ 0 = omega arith in
        let word : 32 * (i % 1320 / 110) + 0 ≡ 0 = omega arith in
        let bit : i % 110 ≡ i = omega arith in
        ap (deinterleaved ex left lane) late ∙ fetched ex left lane i ∙ ap₂ left (ap (across ex lane) symbol ∙ to_first) place ∙ brought_bit flips 0 i (lit< tt)
        ∙ ap₂ (λ (f j : ℕ). bit_of 126 (passed_on (arrived (flips f) j)) (i % 110)) frame word
        ∙ ap₂ (λ (v j : ℕ). bit_of 126 v j) (ap passed_on (flips_word e small 0 (lit< tt)) ∙ flagged) bit ∙ one

    symbol_wrong : wrong_symbol run.back run.clean_back lane u ≡ true
    unfolding wrong_symbol
    symbol_wrong =
        let j = 10 * (u + 144) + 0 in
        let back = stream_bit run.back lane j in
        let clean = stream_bit run.clean_back lane j in
        let is : back ≡ differ clean 1 = differs_by run accepted lane j lane_lt (omega arith) ∙ ap (differ clean) left_one in
        lt-ltb 0 _
        (count_pos (λ k. not (eqb (stream_bit run.back lane (10 * (u + 144) + k)) (stream_bit run.clean_back lane (10 * (u + 144) + k)))) 10 0 (lit< tt)
        (ap not (ne_eqb back clean (λ q. differ_one clean (sym is ∙ q)))))

    counted : start lane u ≡ start lane s
        → (ltb (u + 144) (132 * 2) && wrong_symbol run.back run.clean_back lane u && eqb (start lane u) (start lane s)) ≡ true
    counted l = both (both (lt-ltb (u + 144) (132 * 2) (omega arith)) symbol_wrong) (eq-eqb (start lane u) (start lane s) l)

  same_label : start lane t ≡ start lane s
  unfolding plain
  same_label =
      let span : (t + 0) / 68 ≡ (s + 0) / 68 = omega arith in
      ap₂ (λ (a c : ℕ). (a * 2 + c) * 32 + lane) span (sym parity)

  exceeds : heavy_words ex 2 flips start (start lane s) < wrong_symbols 2 run.back run.clean_back start (start lane s)
  unfolding heavy_words wrong_symbols
  exceeds =
      omega (
        arith,
        lanes_one (λ p w. heavy flips p w && carries ex start (start lane s) p w) (12 * 2)
            (λ p w hp hw y. first_only p w hp (heavy_more flips p w (left (heavy flips p w) _ y))),
        lanes_two (λ p u. ltb (u + 144) (132 * 2) && wrong_symbol run.back run.clean_back p u && eqb (start p u) (start lane s))
            (132 * 2) lane s t lane_lt order (omega arith)
            (counted s (omega arith) refl at-s refl) (counted t four (sym side) at-t same_label),
      )

  found : Exceeded ex
  found =
      record {
        n = 2;
        flips = flips;
        lanes = zeros 5280;
        room = zeros 6144;
        outs = zeros 5280;
        flag_buffers = zeros 384;
        trial = run;
        accepted = accepted;
        before = λ _. 0;
        label = start;
        spans = plain_spans 2 (λ _. 0);
        codeword = start lane s;
        more = exceeds;
      }

-- bits 0, 20 and 21 for places 0 and 2, bits 10, 30 and 31 for places 1 and 3
pub other_places : OtherPlaces
unfolding distance count bit_of
other_places ex sides =
    ⊎_elim (λ (side : ex 0 ≡ ex 2). found ex 0 2 (lit< tt) (lit< tt) refl side (2 ^ 125 + 2 ^ 105 + 2 ^ 104) (lit< tt) refl refl refl)
    (λ (side : ex 1 ≡ ex 3). found ex 1 3 (lit< tt) (lit< tt) refl side (2 ^ 115 + 2 ^ 95 + 2 ^ 94) (lit< tt) refl refl refl) sides

pub other_pairs : OtherPairs
unfolding named
other_pairs = (other_places (named 5) (inl refl), other_places (named 10) (inl refl))
