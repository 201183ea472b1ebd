-- `SymbolRule`: the block rule says what each word of a sent frame is, and the mapping where its bits stand; and the words with the pilots make the frame.
-- Assumes nothing.
use mathlib.Core.Path.{◌≡◌, sym, ap, ap₂, ◌∙◌, subst}
use mathlib.Core.List.{List}
use Prim.Native.Nat.{ℕ, ◌+◌, ◌*◌, ◌/◌, ◌%◌, ◌^◌, ◌<◌}
use native.Mathlib.Decide.{ℕ_discrete}
use native.Mathlib.Omega.{arith}
use borrow.Author.Tests.{eq-eqb, ne_eqb}
use lib.ListN.{length, get_or}
use lib.Pow.{shr_lt}
use Rattle.bits.specs.definitions.Bits.{number, bit_of, bit_at, AllBytes}
use Rattle.bits.specs.definitions.Words.{row_of}
use Rattle.bits.proofs.Value.{value_cong, number_bits}
use Rattle.bits.proofs.Words.{row_cong}
use Rattle.bch.specs.definitions.Word.{coded_frame}
use Rattle.bch.proofs.Theorems.{sent_is_code}
use Rattle.lanes.specs.definitions.Permutation.{Places}
use Rattle.lanes.specs.definitions.Interleaver.{interleaved_frame}
use Rattle.lanes.specs.definitions.Stream.{stream_bit, interleaved}
use Rattle.lane_words.specs.definitions.LaneWords.{lane_words}
use Rattle.lane_words.proofs.LaneWords.{bit_information}
use Rattle.shuffle.specs.definitions.Shuffle.{place}
use Rattle.shuffle.proofs.Places.{place_lt}
use Rattle.symbols.specs.definitions.Mapping.{lane_of, upper, lower, place_of, payload_at, symbol_of, bit_in}
use Rattle.symbols.specs.definitions.Frame.{frame_of, placed_bit, arrived, words_of}
use Rattle.symbols.proofs.Places.{symbol_lt, bit_in_lt, lane_back, place_back, lane_lt, symbol_back, bit_back}
use Rattle.symbols.proofs.Return.{frame_bytes, arrived_lt, arrived_bit, frame_back}
use Rattle.framing.specs.definitions.Send.{sent_frame}
use Rattle.framing.specs.definitions.Stream.{Sent}
use Rattle.framing.proofs.Sending.{frame_length}
use Rattle.framing.proofs.Stream.{block_rule, frame_sent, sent_pilot}
use Rattle.demands.specs.definitions.Symbols.{word_sent, Symbols}
use Rattle.demands.specs.statements.Symbols.{SymbolRule}

-- ---- the words with the pilots make the frame

-- bit q of word k of lane p stands in the symbol and the tributary to which the mapping takes it, and each bit of the frame is met so
module _ (word : ℕ → ℕ → ℕ) (frame : List ℕ) (S : Symbols word frame) where
  placed_is : (k p q : ℕ) → k < 12 → p < 32 → q < 126 → placed_bit frame k p (place p q) ≡ bit_of 126 (word p k) q
  unfolding placed_bit
  placed_is k p q hk hp hq = go (ℕ_discrete (i % 2) 0)
    where
      r : ℕ
      r = place p q

      l : ℕ
      l = symbol_of p r

      i : ℕ
      i = bit_in p r

      small : r < 126
      small = place_lt p q hq

      here : (x : ℕ) → place_of l i ≡ x → place (lane_of l (i / 2)) q ≡ x
      here x e = ap (λ (a : ℕ). place a q) (lane_back p r hp small) ∙ sym (place_back p r hp small) ∙ e

      go : Dec (i % 2 ≡ 0) → bit_at frame (8 * payload_at (504 * k + l) + i) ≡ bit_of 126 (word p k) q
      go (yes e) =
          let at : 8 * payload_at (504 * k + l) + i ≡ 8 * payload_at (504 * k + l) + 2 * (i / 2) = omega arith in
          ap (bit_at frame) at
          ∙ S.upper_bit k l (i / 2) q hk (symbol_lt p r hp small) (omega (arith, bit_in_lt p r hp small)) hq (here (upper l) (rw (eq-eqb (i % 2) 0 e)))
          ∙ ap (λ (a : ℕ). bit_of 126 (word a k) q) (lane_back p r hp small)
      go (no e) =
          let at : 8 * payload_at (504 * k + l) + i ≡ 8 * payload_at (504 * k + l) + 2 * (i / 2) + 1 = omega arith in
          ap (bit_at frame) at
          ∙ S.lower_bit k l (i / 2) q hk (symbol_lt p r hp small) (omega (arith, bit_in_lt p r hp small)) hq (here (lower l) (rw (ne_eqb (i % 2) 0 e)))
          ∙ ap (λ (a : ℕ). bit_of 126 (word a k) q) (lane_back p r hp small)

  word_is : (i : ℕ) → i < 384 → arrived frame i ≡ number 126 (bit_of 126 (word (i % 32) (i / 32)))
  unfolding arrived
  word_is i h = value_cong 2 126 _ _ (λ q l. placed_is (i / 32) (i % 32) q (omega arith) (omega arith) l)

  frame_is : frame ≡ frame_of (row_of 384 (λ i. number 126 (bit_of 126 (word (i % 32) (i / 32)))))
  unfolding words_of
  frame_is = sym ((frame_back frame S.bytes).1 S.whole S.pilot) ∙ ap frame_of (row_cong 384 (arrived frame) _ word_is)

-- ---- a run of sending

module _ (ex : Places) (n : ℕ) (lanes room : ℕ → List ℕ) (numbers : ℕ → ℕ) (frames stores : ℕ → List ℕ) (S : Sent ex n lanes room numbers frames stores)
    (f : ℕ) (h : f < n) where
  -- by the block rule, and since a code word is known by its information
  word_sent_lem : (k p : ℕ) → k < 12 → p < 32 → arrived (frames f) (32 * k + p) ≡ word_sent ex lanes p (12 * f + k)
  word_sent_lem k p hk hp =
      let w = 12 * f + k in
      let c = arrived (frames f) (32 * k + p) in
      let m = number 110 (λ q. interleaved ex (stream_bit lanes) p (110 * w + q)) in
      let small : c / 2 ^ 16 < 2 ^ 110 = shr_lt 110 16 (arrived_lt (frames f) (32 * k + p)) in
      let frame : f ≡ w / 12 = omega arith in
      let word : 32 * k + p ≡ 32 * (w % 12) + p = omega arith in
      let is : c / 2 ^ 16 ≡ m =
      sym (number_bits 110 (c / 2 ^ 16) small)
      ∙ value_cong 2 110 (bit_of 110 (c / 2 ^ 16)) _ (λ q l.
      sym (bit_information c q l) ∙ ap₂ (λ (g j : ℕ). bit_of 126 (arrived (frames g) j) q) frame word
      ∙ (block_rule ex n lanes room numbers frames stores S).2 p w q hp (omega arith) l) in
      (sent_is_code m (subst (λ (x : ℕ). x < 2 ^ 110) is small)).3 c ((block_rule ex n lanes room numbers frames stores S).1 f (32 * k + p) h (omega arith)) is

  -- bit i of payload symbol 504 k + l, of tributary i / 2: the bit whose place is bit i's
  symbol_bit : (k l i t q : ℕ) → k < 12 → l < 504 → i < 8 → q < 126 → t ≡ i / 2 → place (lane_of l t) q ≡ place_of l i
      → bit_at (frames f) (8 * payload_at (504 * k + l) + i) ≡ bit_of 126 (word_sent ex lanes (lane_of l t) (12 * f + k)) q
  unfolding placed_bit
  symbol_bit k l i t q hk hl hi hq e at =
      let p = lane_of l t in
      let lane : p ≡ lane_of l (i / 2) = ap (lane_of l) e in
      let hp : p < 32 = subst (λ (a : ℕ). a < 32) (sym lane) (lane_lt l i hl hi) in
      let of : (32 * k + p) / 32 ≡ k = omega arith in
      let on : (32 * k + p) % 32 ≡ p = omega arith in
      sym
      (ap (λ (w : ℕ). bit_of 126 w q) (sym (word_sent_lem k p hk hp)) ∙ arrived_bit (frames f) (32 * k + p) q hq
      ∙ ap₂ (λ (a b : ℕ). bit_at (frames f) (8 * payload_at (504 * a + symbol_of b (place b q)) + bit_in b (place b q))) of on
      ∙ ap₂ (λ (a b : ℕ). bit_at (frames f) (8 * payload_at (504 * k + a) + b))
      (ap₂ symbol_of lane at ∙ symbol_back l i hl hi) (ap₂ bit_in lane at ∙ bit_back l i hl hi))

  symbols : Symbols (λ p k. word_sent ex lanes p (12 * f + k)) (frames f)
  unfolding sent_frame
  symbols =
      record {
        whole = ap length (frame_sent ex n lanes room numbers frames stores S f h) ∙ frame_length ex (lanes f) (stores f);
        bytes =
            subst AllBytes (sym (frame_sent ex n lanes room numbers frames stores S f h))
            (frame_bytes (coded_frame (lane_words (interleaved_frame ex (lanes f) (stores f)))));
        pilot = λ k l.
            ap (λ (x : List ℕ). get_or x (64 * k) 0) (frame_sent ex n lanes room numbers frames stores S f h)
            ∙ sent_pilot ex (lanes f) (stores f) k l;
        upper_bit = λ k l t q hk hl ht hq e.
            let is : place_of l (2 * t) ≡ upper l = rw (eq-eqb (2 * t % 2) 0 (omega arith)) in
            symbol_bit k l (2 * t) t q hk hl (omega arith) hq (omega arith) (e ∙ sym is);
        lower_bit = λ k l t q hk hl ht hq e.
            let at : 8 * payload_at (504 * k + l) + 2 * t + 1 ≡ 8 * payload_at (504 * k + l) + (2 * t + 1) = omega arith in
            let is : place_of l (2 * t + 1) ≡ lower l = rw (ne_eqb ((2 * t + 1) % 2) 0 (λ z. omega arith)) in
            ap (bit_at (frames f)) at ∙ symbol_bit k l (2 * t + 1) t q hk hl (omega arith) hq (omega arith) (e ∙ sym is);
      }

pub symbol_rule : SymbolRule
symbol_rule ex n lanes room numbers frames stores S f h =
    let word : ℕ → ℕ → ℕ = λ p k. word_sent ex lanes p (12 * f + k) in
    let is = symbols ex n lanes room numbers frames stores S f h in
    (is, λ frame other. frame_is word frame other ∙ sym (frame_is word (frames f) is))
