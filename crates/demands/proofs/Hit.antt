-- A frame hit by flips: its words are the words sent with the words' flips, and its lock depends on the flips alone.
-- Assumes nothing.
use mathlib.Core.Path.{◌≡◌, sym, ap, ap₂, ◌∙◌, subst}
use mathlib.Core.Bool.{true, not, ◌&&◌}
use mathlib.Core.List.{List}
use Prim.Native.Nat.{ℕ, ◌+◌, ◌*◌, ◌/◌, ◌%◌, ◌^◌, ◌≤◌, ◌<◌}
use native.Mathlib.Nat.{zero-add}
use native.Mathlib.Decide.{ℕ_discrete}
use native.Mathlib.Omega.{arith}
use lib.Dec.{eqb, ltb}
use borrow.Author.Tests.{lt-ltb, eq-eqb, ne_eqb}
use lib.ListN.{length, get_or}
use lib.Seq.{ext_get_or}
use lib.Bits.{bit_xor, differ, xor_lt, xor_self, xor_zero_r}
use Rattle.bits.specs.definitions.Bits.{bit_of}
use Rattle.bits.proofs.Tabulate.{length_tabulate, get_d_tabulate}
use Rattle.bits.proofs.Count.{count_cong}
use Rattle.bits.proofs.Value.{bit_xor_lem, bit_ext}
use Rattle.bits.proofs.Fields.{bit_at_byte}
use Rattle.bits.proofs.Xor.{xor_swap, xor_cancel}
use Rattle.bits.proofs.Weight.{weight, weight_zero}
use Rattle.bch.specs.definitions.Code.{CodeWord, distance}
use Rattle.decoder.specs.definitions.Mend.{mend, mended, flag_of}
use Rattle.decoder.specs.definitions.Word.{mended_frame}
use Rattle.decoder.proofs.Distance.{distance_weight}
use Rattle.decoder.proofs.Theorems.{mends_two, two_vanish, flips_alone}
use Rattle.lanes.specs.definitions.Stream.{stream_bit}
use Rattle.lane_words.proofs.LaneWords.{lanes_information}
use Rattle.shuffle.specs.definitions.Shuffle.{place}
use Rattle.symbols.specs.definitions.Mapping.{payload_at, symbol_of, bit_in}
use Rattle.pilots.specs.definitions.Table5.{pilots}
use Rattle.pilots.specs.definitions.Pilots.{met, wrong_pilots, locks, lock_limit}
use Rattle.symbols.specs.definitions.Frame.{placed_bit, arrived, words_of}
use Rattle.shuffle.proofs.Places.{place_lt}
use Rattle.symbols.proofs.Places.{symbol_lt, bit_in_lt}
use Rattle.symbols.proofs.Return.{payload_lt, arrived_lt, arrived_bit}
use Rattle.framing.specs.definitions.Receive.{brought_lanes, received_flags}
use Rattle.framing.proofs.Receiving.{flags_length}
use Rattle.framing.proofs.Received.{passed_on, passed_at, flag_at_lem, brought_bit}
use Rattle.demands.specs.definitions.Trial.{hit, hit_pilots}

module _ (f e : List ℕ) where
  pub hit_length : length (hit f e) ≡ 6144
  unfolding hit
  hit_length = length_tabulate 6144 _

  pub hit_at : (t : ℕ) → t < 6144 → get_or (hit f e) t 0 ≡ bit_xor (get_or f t 0) (get_or e t 0)
  unfolding hit
  hit_at t h = get_d_tabulate 6144 _ t 0 h

  hit_bit : (k p r : ℕ) → k < 12 → p < 32 → r < 126 → placed_bit (hit f e) k p r ≡ differ (placed_bit f k p r) (placed_bit e k p r)
  unfolding placed_bit
  hit_bit k p r hk hp hr =
      let m = payload_at (504 * k + symbol_of p r) in
      let b : bit_in p r < 8 = bit_in_lt p r hp hr in
      bit_at_byte (hit f e) m (bit_in p r) b
      ∙ ap (λ (x : ℕ). bit_of 8 x (bit_in p r)) (hit_at m (payload_lt (504 * k + symbol_of p r) (omega (arith, symbol_lt p r hp hr))))
      ∙ bit_xor_lem 8 (get_or f m 0) (get_or e m 0) (bit_in p r) ∙ sym (ap₂ differ (bit_at_byte f m (bit_in p r) b) (bit_at_byte e m (bit_in p r) b))

  -- a word that arrives
  pub hit_word : (i : ℕ) → i < 384 → arrived (hit f e) i ≡ bit_xor (arrived f i) (arrived e i)
  hit_word i h =
      bit_ext 126 _ _ (arrived_lt (hit f e) i) (xor_lt 126 _ _ (arrived_lt f i) (arrived_lt e i))
      (λ q l.
      arrived_bit (hit f e) i q l ∙ hit_bit (i / 32) (i % 32) (place (i % 32) q) (omega arith) (omega arith) (place_lt (i % 32) q l)
      ∙ sym (bit_xor_lem 126 (arrived f i) (arrived e i) q ∙ ap₂ differ (arrived_bit f i q l) (arrived_bit e i q l)))

  -- in so many bits it differs from the word sent
  pub hit_distance : (i : ℕ) → i < 384 → distance (arrived e i) 0 ≡ distance (arrived (hit f e) i) (arrived f i)
  hit_distance i h =
      distance_weight (arrived e i) 0
      ∙ ap (weight 126) (xor_zero_r (arrived e i)
      ∙ sym (ap (λ (w : ℕ). bit_xor w (arrived f i)) (hit_word i h) ∙ xor_swap (arrived f i) (arrived e i) (arrived f i)
      ∙ ap (λ (w : ℕ). bit_xor w (arrived e i)) (xor_self (arrived f i))))
      ∙ sym (distance_weight (arrived (hit f e) i) (arrived f i))

-- ---- its lock

-- adding what is not 0 changes a number
xor_test : (x e : ℕ) → eqb (bit_xor x e) x ≡ eqb e 0
xor_test x e = go (ℕ_discrete e 0)
  where
    go : Dec (e ≡ 0) → eqb (bit_xor x e) x ≡ eqb e 0
    go (yes z) = eq-eqb (bit_xor x e) x (ap (bit_xor x) z ∙ xor_zero_r x) ∙ sym (eq-eqb e 0 z)
    go (no z) = ne_eqb (bit_xor x e) x (λ s. z (sym (xor_cancel x e) ∙ ap (bit_xor x) s ∙ xor_self x)) ∙ sym (ne_eqb e 0 z)

-- a frame with the right pilots locks unless too many of them are hit
pub hit_locks : (f e : List ℕ) → ((k : ℕ) → k < 96 → get_or f (64 * k) 0 ≡ get_or pilots k 0) → locks (hit f e) 0 ≡ ltb (hit_pilots e) lock_limit
unfolding locks wrong_pilots met hit_pilots
hit_locks f e pilot = ap (λ (n : ℕ). ltb n lock_limit) (count_cong 96 _ _ (λ i h. ap not (at i h)))
  where
    there : (i : ℕ) → i < 96 → ltb (64 * i) 6144 ≡ true
    there i h = lt-ltb (64 * i) 6144 (omega arith)

    at : (i : ℕ) → i < 96 → (ltb (0 + 64 * i) (length (hit f e)) && eqb (get_or (hit f e) (0 + 64 * i) 0) (get_or pilots i 0)) ≡ eqb (get_or e (64 * i) 0) 0
    at i h = rw (zero-add (64 * i), hit_length f e, there i h, hit_at f e (64 * i) (omega arith), pilot i h)
        (xor_test (get_or pilots i 0) (get_or e (64 * i) 0))

-- ---- what is made of a hit frame of code words

-- a code word is passed on as it is
pub code_passed : (c : ℕ) → CodeWord c → c < 2 ^ 126 → passed_on c ≡ c
unfolding passed_on
code_passed c C h = (mends_two c c C h (omega (arith, distance_weight c c, ap (weight 126) (xor_self c), weight_zero 126))).0

module _ (f e : List ℕ) (code : (i : ℕ) → i < 384 → CodeWord (arrived f i)) where
  -- a word is passed on as sent, but for what is left of the flips
  passed_hit : (i : ℕ) → i < 384 → passed_on (arrived (hit f e) i) ≡ bit_xor (passed_on (arrived f i)) (passed_on (arrived e i))
  unfolding passed_on
  passed_hit i h =
      ap (λ (w : ℕ). mended w (mend w)) (hit_word f e i h) ∙ (flips_alone (arrived f i) (arrived e i) (code i h)).1
      ∙ ap (λ (w : ℕ). bit_xor w (mended (arrived e i) (mend (arrived e i)))) (sym (code_passed (arrived f i) (code i h) (arrived_lt f i)))

  -- the flags are those that the flips alone would give
  pub flags_hit : received_flags (hit f e) ≡ received_flags e
  flags_hit =
      ext_get_or 0 (received_flags (hit f e)) (received_flags e) (flags_length (hit f e) ∙ sym (flags_length e))
      (λ i l.
      let h : i < 384 = subst (λ (n : ℕ). i < n) (flags_length (hit f e)) l in
      flag_at_lem (hit f e) i h ∙ ap (λ (w : ℕ). flag_of (mend w)) (hit_word f e i h) ∙ ap flag_of (flips_alone (arrived f i) (arrived e i) (code i h)).0
      ∙ sym (flag_at_lem e i h))

  -- and at most two flips in every word leave nothing in the lanes
  pub brought_two : ((i : ℕ) → i < 384 → distance (arrived e i) 0 ≤ 2) → brought_lanes (hit f e) ≡ brought_lanes f
  unfolding brought_lanes passed_on
  brought_two two =
      lanes_information (mended_frame (words_of (hit f e))) (mended_frame (words_of f))
      (λ i h.
      ap (λ (w : ℕ). w / 2 ^ 16)
      (passed_at (hit f e) i h ∙ passed_hit i h ∙ ap (bit_xor (passed_on (arrived f i))) (two_vanish (arrived e i) (arrived_lt e i) (two i h))
      ∙ xor_zero_r (passed_on (arrived f i)) ∙ sym (passed_at f i h)))

-- over frames: the lanes brought are those brought undamaged, but for what the flips themselves bring
pub brought_hit : (frames flips : ℕ → List ℕ) (p i : ℕ) → p < 32 → ((k : ℕ) → k < 384 → CodeWord (arrived (frames (i / 1320)) k))
    → stream_bit (λ f. brought_lanes (hit (frames f) (flips f))) p i
    ≡ differ (stream_bit (λ f. brought_lanes (frames f)) p i) (stream_bit (λ f. brought_lanes (flips f)) p i)
brought_hit frames flips p i hp code =
    let f = frames (i / 1320) in
    let e = flips (i / 1320) in
    let k = 32 * (i % 1320 / 110) + p in
    brought_bit (λ f. hit (frames f) (flips f)) p i hp ∙ ap (λ (w : ℕ). bit_of 126 w (i % 110)) (passed_hit f e code k (omega arith))
    ∙ bit_xor_lem 126 (passed_on (arrived f k)) (passed_on (arrived e k)) (i % 110) ∙ sym (ap₂ differ (brought_bit frames p i hp) (brought_bit flips p i hp))
