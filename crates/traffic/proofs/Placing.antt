-- A stream's words in lanes: the windows that `row` reads, blocks put down one after the other, the frame that they make, and the state behind it.
-- Assumes nothing.
use mathlib.Core.Path.{◌≡◌, sym, ap, ap₂, ◌∙◌}
use mathlib.Core.List.{List, []}
use Prim.Native.Nat.{ℕ, ◌+◌, ◌*◌, ◌-◌, ◌/◌, ◌%◌, ◌^◌, ◌<◌}
use native.Mathlib.Nat.{mod-eq_of_lt}
use native.Mathlib.Decide.{dec_lt}
use native.Mathlib.Omega.{arith}
use lib.ListN.{length, get_or}
use Rattle.bits.specs.definitions.Bits.{number, bit_of, bit_at}
use Rattle.bits.proofs.Tabulate.{get_d_tabulate}
use Rattle.bits.proofs.Value.{value_lt, value_cong, value_low, bit_lt, bit_number, number_bits}
use Rattle.bits.proofs.Fields.{is_bytes}
use Rattle.lanes.specs.definitions.Permutation.{lane_bytes}
use Rattle.traffic.specs.definitions.Register.{state_from, bit_from}
use Rattle.traffic.specs.definitions.Traffic.{placed, traffic_from}
use Rattle.traffic.specs.private.Stream.{stream_word, Streams}
use Rattle.traffic.specs.private.Lanes.{words_bit, window_at, row_of, rows_of, BlocksPut, Placed}
use Rattle.traffic.proofs.Register.{sent_lt, sent_number, from_lt, from_add, bit_add}
use Rattle.traffic.proofs.Windows.{window_number}

-- ---- windows

words_lt : (words : List ℕ) (i : ℕ) → words_bit words i < 2
unfolding words_bit
words_lt words i = bit_lt 64 (get_or words (i / 64) 0) (i % 64)

module _ (words : List ℕ) (fits : (k : ℕ) → get_or words k 0 < 2 ^ 64) where
  -- a word is the number of its bits
  word_number : (k : ℕ) → get_or words k 0 ≡ number 64 (λ q. words_bit words (64 * k + q))
  unfolding words_bit
  word_number k = sym (number_bits 64 (get_or words k 0) (fits k)) ∙ value_cong 2 64 _ _ bit
    where
      bit : (q : ℕ) → q < 64 → bit_of 64 (get_or words k 0) q ≡ words_bit words (64 * k + q)
      bit q h =
          let d : (64 * k + q) / 64 ≡ k = omega arith in
          let r : (64 * k + q) % 64 ≡ q = omega arith in
          rw (d, r)

  -- 64 bits from bit r of word k on
  window_at_lem : (k r : ℕ) → r < 64 → (get_or words k 0 * 2 ^ 64 + get_or words (k + 1) 0) / 2 ^ (64 - r) % 2 ^ 64 ≡ window_at words (64 * k + r)
  unfolding window_at
  window_at_lem k r h =
      ap₂ (λ (x y : ℕ). (x * 2 ^ 64 + y) / 2 ^ (64 - r) % 2 ^ 64) (word_number k)
      (word_number (k + 1) ∙ value_cong 2 64 _ _ (λ q _. ap (words_bit words) (next q)))
      ∙ window_number (λ q. words_bit words (64 * k + q)) (λ q. words_lt words (64 * k + q)) r h ∙ value_cong 2 64 _ _ (λ q _. ap (words_bit words) (here q))
    where
      next : (q : ℕ) → 64 * (k + 1) + q ≡ 64 * k + (64 + q)
      next q = omega arith

      here : (q : ℕ) → 64 * k + (r + q) ≡ 64 * k + r + q
      here q = omega arith

  -- what `row` stores for group m of row s
  pub group_at : (s m : ℕ)
      → (get_or words (5 * s + 5 * m / 8) 0 * 2 ^ 64 + get_or words (5 * s + 5 * m / 8 + 1) 0) / 2 ^ (64 - 40 * m % 64) % 2 ^ 64
      ≡ window_at words (320 * s + 40 * m)
  group_at s m =
      let e : 64 * (5 * s + 5 * m / 8) + 40 * m % 64 ≡ 320 * s + 40 * m = omega arith in
      window_at_lem (5 * s + 5 * m / 8) (40 * m % 64) (omega arith) ∙ ap (window_at words) e

-- ---- blocks put down

-- bit q of group m of row j of block i
group_bit : (words : List ℕ) (i j m q : ℕ) → j < 4 → m < 8 → q < 64
    → bit_of 64 (get_or (get_or (rows_of words i) j []) m 0) q ≡ words_bit words (320 * (4 * i + j) + 40 * m + q)
unfolding rows_of row_of window_at
group_bit words i j m q hj hm hq =
    ap (λ (l : List ℕ). bit_of 64 (get_or l m 0) q) (get_d_tabulate 4 (λ j. row_of words (4 * i + j)) j [] hj)
    ∙ ap (λ (x : ℕ). bit_of 64 x q) (get_d_tabulate 8 (λ m. window_at words (320 * (4 * i + j) + 40 * m)) m 0 hm)
    ∙ bit_number 64 (λ q. words_bit words (320 * (4 * i + j) + 40 * m + q)) (λ q _. words_lt words (320 * (4 * i + j) + 40 * m + q)) q hq

pub placed_step : {words l l' : List ℕ} {rows : List (List ℕ)} {i : ℕ} → Placed words i l → rows ≡ rows_of words i → BlocksPut rows i 32 l l'
    → Placed words (i + 1) l'
unfolding placed
placed_step {words} {l} {l'} {rows} {i} P g B = record { bytes = λ _. B.bytes (omega arith); bit = λ p j hp hj. bit p j hp hj (dec_lt j (40 * i)) }
  where
    bit : (p j : ℕ) → p < 32 → j < 40 * (i + 1) → Dec (j < 40 * i) → bit_at l' (1320 * p + j) ≡ placed (words_bit words) p j
    bit p j hp hj (yes b) = B.kept p j hp b ∙ P.bit p j hp b
    bit p j hp hj (no b) =
        let s : ℕ = j / 10 - 4 * i in
        let a : 1320 * p + j ≡ 1320 * p + 40 * i + 10 * s + j % 10 = omega arith in
        let e : 320 * (4 * i + s) + 40 * (p / 4) + (10 * (p % 4) + j % 10) ≡ 320 * (j / 10) + 10 * p + j % 10 = omega arith in
        ap (bit_at l') a ∙ B.here p s (j % 10) hp (omega arith) (omega arith)
        ∙ ap (λ (x : List (List ℕ)). bit_of 64 (get_or (get_or x s []) (p / 4) 0) (10 * (p % 4) + j % 10)) g
        ∙ group_bit words i s (p / 4) (10 * (p % 4) + j % 10) (omega arith) (omega arith) (omega arith) ∙ ap (words_bit words) e

-- ---- a frame of the stream

module _ {s : ℕ} {words : List ℕ} where
  -- the words hold the stream's bits, so 33 blocks of every lane are its frame
  stream_bit_lem : {i : ℕ} → Streams s 660 words → i < 42240 → words_bit words i ≡ bit_from s i
  unfolding words_bit stream_word
  stream_bit_lem {i} S h =
      let e : 64 * (i / 64) + i % 64 ≡ i = omega arith in
      ap (λ (x : ℕ). bit_of 64 x (i % 64)) (S.word (i / 64) (omega arith))
      ∙ bit_number 64 (λ q. bit_from s (64 * (i / 64) + q)) (λ q _. sent_lt (state_from s (64 * (i / 64) + q))) (i % 64) (omega arith) ∙ ap (bit_from s) e

  pub lanes_frame : {lanes : List ℕ} → length lanes ≡ 5280 → Placed words 33 lanes → Streams s 660 words → lanes ≡ traffic_from s
  unfolding traffic_from lane_bytes placed
  lanes_frame {lanes} long P S = is_bytes 5280 _ lanes (P.bytes (omega arith)) long bit
    where
      bit : (j : ℕ) → j < 8 * 5280 → bit_at lanes j ≡ placed (bit_from s) (j / 1320) (j % 1320)
      bit j h =
          let e : j ≡ 1320 * (j / 1320) + j % 1320 = omega arith in
          ap (bit_at lanes) e ∙ P.bit (j / 1320) (j % 1320) (omega arith) (omega arith) ∙ stream_bit_lem S (omega arith)

  -- the last 31 bits sent are the state behind them, inverted
  pub last_state : s < 2 ^ 31 → Streams s 660 words → (2 ^ 64 - 1 - get_or words 659 0) % 2 ^ 31 ≡ state_from s 42240
  unfolding stream_word
  last_state h S =
      let b : state_from s 42240 < 2 ^ 31 = from_lt s 42240 h in
      let l : get_or words 659 0 < 2 ^ 64 = rw (S.word 659 (omega arith)) (value_lt 2 64 (λ q. bit_from s (64 * 659 + q)) (λ q _. sent_lt _)) in
      omega (arith, low)
    where
      bit : (q : ℕ) → bit_from s (64 * 659 + (33 + q)) ≡ bit_from (state_from s 42209) q
      bit q = let e : 64 * 659 + (33 + q) ≡ 42209 + q = omega arith in ap (bit_from s) e ∙ bit_add s 42209 q

      low : get_or words 659 0 % 2 ^ 31 ≡ 2 ^ 31 - 1 - state_from s 42240
      low =
          ap (λ (x : ℕ). x % 2 ^ 31) (S.word 659 (omega arith))
          ∙ value_low 2 33 31 (λ q. bit_from s (64 * 659 + q)) (λ q _. sent_lt (state_from s (64 * 659 + q))) ∙ value_cong 2 31 _ _ (λ q _. bit q)
          ∙ sent_number (state_from s 42209) 31 (omega arith)
          ∙ ap (λ (x : ℕ). 2 ^ 31 - 1 - x) (ap (λ (x : ℕ). x % 2 ^ 31) (sym (from_add s 42209 31)) ∙ mod-eq_of_lt (from_lt s 42240 h))
