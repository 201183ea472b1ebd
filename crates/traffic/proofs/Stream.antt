-- The stream's words: a word by the states that it takes, and the rule by which it follows from two before it; and loops that fill a stream.
-- Assumes nothing.
use mathlib.Core.Path.{◌≡◌, refl, sym, ap, ap₂, ◌∙◌}
use mathlib.Core.List.{List}
use Prim.Native.Nat.{ℕ, zero, suc, ◌+◌, ◌*◌, ◌-◌, ◌/◌, ◌%◌, ◌^◌, ◌≤◌, ◌<◌}
use native.Mathlib.Nat.{not-suc-le-zero}
use native.Mathlib.Decide.{ℕ_discrete}
use native.Mathlib.Omega.{arith}
use lib.Dec.{lit<, lit≤}
use lib.ListN.{length, get_or, set, length-set}
use lib.Seq.{get_or-set_same, get_or-set_other}
use lib.Bits.{bit_xor, differ}
use Rattle.bits.specs.definitions.Bits.{number}
use Rattle.bits.proofs.Value.{value_cong, value_append, number_inverted, number_xor}
use Rattle.bits.proofs.Xor.{xor_assoc, xor_cancel, differ_lt}
use Rattle.traffic.specs.definitions.Register.{entering, state_from, sent_bit, bit_from}
use Rattle.traffic.specs.private.Stream.{stream_word, Streams, Grows}
use Rattle.traffic.proofs.Register.{entering_lt, entering_xor, from_add, from_lt, from_xor, sent_lt, sent_number, bit_add}
use Rattle.traffic.proofs.Jumping.{rule}
use Rattle.traffic.proofs.Windows.{window_number}

-- ---- the register's rule at greater distances

-- the state 31 d bits on is the sum of the one 3 d bits on and this one
abbrev pub Rule : ℕ → Type 0
Rule d = (s : ℕ) → s < 2 ^ 31 → state_from s (31 * d) ≡ bit_xor (state_from s (3 * d)) s

-- what holds at a distance holds at twice the distance
rule_twice : (d : ℕ) → Rule d → Rule (2 * d)
rule_twice d R s h =
    let e : 31 * (2 * d) ≡ 31 * d + 31 * d = omega arith in
    let f : 3 * d + 3 * d ≡ 3 * (2 * d) = omega arith in
    let t = state_from s (3 * d) in
    ap (state_from s) e ∙ from_add s (31 * d) (31 * d) ∙ R (state_from s (31 * d)) (from_lt s (31 * d) h)
    ∙ ap₂ bit_xor (ap (λ (x : ℕ). state_from x (3 * d)) (R s h) ∙ from_xor t s (3 * d)) (R s h)
    ∙ xor_assoc (state_from t (3 * d)) t (bit_xor t s) ∙ ap (bit_xor (state_from t (3 * d))) (xor_cancel t s)
    ∙ ap (λ (x : ℕ). bit_xor x s) (sym (from_add s (3 * d) (3 * d)) ∙ ap (state_from s) f)

rule_4 : Rule 4
rule_4 = rule_twice 2 (rule_twice 1 rule)

pub rule_64 : Rule 64
rule_64 = rule_twice 32 (rule_twice 16 (rule_twice 8 (rule_twice 4 rule_4)))

pub rule_128 : Rule 128
rule_128 = rule_twice 64 rule_64

-- so bits that are sent follow from two before them
sums_inverted : (x y : ℕ) → x < 2 → y < 2 → 1 - bit_xor x y ≡ 1 - differ (1 - x) (1 - y)
sums_inverted zero zero hx hy = refl
sums_inverted zero (suc zero) hx hy = refl
sums_inverted (suc zero) zero hx hy = refl
sums_inverted (suc zero) (suc zero) hx hy = refl
sums_inverted zero (suc (suc y)) hx hy = absurd (omega arith)
sums_inverted (suc zero) (suc (suc y)) hx hy = absurd (omega arith)
sums_inverted (suc (suc x)) y hx hy = absurd (omega arith)

module _ (s m d : ℕ) (h : s < 2 ^ 31) (R : Rule d) where
  bit_follows : (q : ℕ) → bit_from s (m + 31 * d + q) ≡ 1 - differ (bit_from s (m + 3 * d + q)) (bit_from s (m + q))
  unfolding sent_bit
  bit_follows q =
      let t = state_from s (m + q) in
      let e : m + 31 * d + q ≡ m + q + 31 * d = omega arith in
      let f : m + q + 3 * d ≡ m + 3 * d + q = omega arith in
      let three : state_from t (3 * d) ≡ state_from s (m + 3 * d + q) = sym (from_add s (m + q) (3 * d)) ∙ ap (state_from s) f in
      ap (λ (x : ℕ). 1 - entering x) (ap (state_from s) e ∙ from_add s (m + q) (31 * d) ∙ R t (from_lt s (m + q) h))
      ∙ ap (λ (x : ℕ). 1 - x) (entering_xor (state_from t (3 * d)) t)
      ∙ sums_inverted (entering (state_from t (3 * d))) (entering t) (entering_lt _) (entering_lt _)
      ∙ ap (λ (x : ℕ). 1 - differ (1 - entering x) (1 - entering t)) three

  pub follows : 2 ^ 64 - 1 - bit_xor (number 64 (λ q. bit_from s (m + 3 * d + q))) (number 64 (λ q. bit_from s (m + q)))
      ≡ number 64 (λ q. bit_from s (m + 31 * d + q))
  follows =
      ap (λ (x : ℕ). 2 ^ 64 - 1 - x) (sym (number_xor 64 f g (λ q. sent_lt _) (λ q. sent_lt _)))
      ∙ sym (number_inverted 64 (λ q. differ (f q) (g q)) (λ q _. differ_lt (f q) (g q) (sent_lt _) (sent_lt _)))
      ∙ value_cong 2 64 _ _ (λ q _. sym (bit_follows q))
    where
      f : ℕ → ℕ
      f q = bit_from s (m + 3 * d + q)

      g : ℕ → ℕ
      g q = bit_from s (m + q)

-- ---- the first word, four times `state = state.ahead(16); word = word * 65536 + (65535 - state.bits % 65536)`

pub sixteen : (s j : ℕ) {word state : ℕ} → word ≡ number (16 * j) (bit_from s) → state ≡ state_from (state_from s (16 * j)) 16
    → word * 65536 + (65535 - state % 65536) ≡ number (16 * (j + 1)) (bit_from s)
sixteen s j {word} {state} ew es =
    let e : 16 * j + 16 ≡ 16 * (j + 1) = omega arith in
    ap₂ (λ (x y : ℕ). x * 65536 + y) ew
    (ap (λ (x : ℕ). 65535 - x % 65536) es ∙ sym (sent_number (state_from s (16 * j)) 16 (lit≤ tt))
    ∙ value_cong 2 16 (bit_from (state_from s (16 * j))) (λ q. bit_from s (16 * j + q)) (λ q _. sym (bit_add s (16 * j) q)))
    ∙ sym (value_append 2 (16 * j) 16 (bit_from s)) ∙ ap (λ (n : ℕ). number n (bit_from s)) e

-- the second word is the first one from the state 64 bits on, which is reached in three steps
pub second_word : (s : ℕ) {a b c : ℕ} → a ≡ state_from s 28 → b ≡ state_from a 28 → c ≡ state_from b 8 → stream_word c 0 ≡ stream_word s 1
unfolding stream_word
second_word s {a} {b} {c} ea eb ec =
    let is : c ≡ state_from s 64 =
    ec ∙ ap (λ (x : ℕ). state_from x 8) (eb ∙ ap (λ (x : ℕ). state_from x 28) ea ∙ sym (from_add s 28 28)) ∙ sym (from_add s 56 8) in
    value_cong 2 64 _ _
    (λ q _. ap (λ (x : ℕ). bit_from x (64 * 0 + q)) is ∙ sym (bit_add s 64 (64 * 0 + q))
    ∙ let e : 64 + (64 * 0 + q) ≡ 64 * 1 + q = omega arith in ap (bit_from s) e)

-- ---- loops that fill a stream

-- one word more
stream_more : {s n : ℕ} {words : List ℕ} {v : ℕ} → Streams s n words → n < length words → v ≡ stream_word s n → Streams s (n + 1) (set words n v)
stream_more {s} {n} {words} {v} S h e = record { word = λ k l. at k (ℕ_discrete k n) l }
  where
    at : (k : ℕ) → Dec (k ≡ n) → k < n + 1 → get_or (set words n v) k 0 ≡ stream_word s k
    at k (yes q) l = rw (q, get_or-set_same words n v 0 h) e
    at k (no ne) l = get_or-set_other words n k v 0 ne ∙ S.word k (omega arith)

-- of whichever stream
pub grows_more : {from n : ℕ} {words₀ words : List ℕ} {v : ℕ} → Grows from n words₀ words → n < length words
    → ((s : ℕ) → s < 2 ^ 31 → Streams s n words → v ≡ stream_word s n) → Grows from (n + 1) words₀ (set words n v)
grows_more {from} {n} {words₀} {words} {v} G h e =
    record { long = length-set words n v ∙ G.long; streams = λ s l S. let T = G.streams s l S in stream_more T h (e s l T) }

-- the first two
pub two_words : {s a b : ℕ} (words : List ℕ) → length words ≡ 661 → a ≡ stream_word s 0 → b ≡ stream_word s 1 → Streams s 2 (set (set words 0 a) 1 b)
two_words {s} {a} {b} words l ea eb =
    stream_more (stream_more {words = words} (record { word = λ k n. absurd (not-suc-le-zero n) }) (omega arith) ea) (rw length-set (omega arith)) eb

module _ {s n : ℕ} {words : List ℕ} (h : s < 2 ^ 31) (S : Streams s n words) where
  -- by the words 28 d and 31 d before it
  pub word_grown : (d : ℕ) → Rule (64 * d) → 31 * d ≤ n → 0 < d
      → 2 ^ 64 - 1 - bit_xor (get_or words (n - 28 * d) 0) (get_or words (n - 31 * d) 0) ≡ stream_word s n
  unfolding stream_word
  word_grown d R l p =
      let m : ℕ = 64 * (n - 31 * d) in
      let a : 64 * (n - 28 * d) ≡ m + 3 * (64 * d) = omega arith in
      let b : m + 31 * (64 * d) ≡ 64 * n = omega arith in
      ap₂ (λ (x y : ℕ). 2 ^ 64 - 1 - bit_xor x y) (S.word (n - 28 * d) (omega arith) ∙ ap (λ (k : ℕ). number 64 (λ q. bit_from s (k + q))) a)
      (S.word (n - 31 * d) (omega arith))
      ∙ follows s m (64 * d) h R ∙ ap (λ (k : ℕ). number 64 (λ q. bit_from s (k + q))) b

  -- by the two before it
  pub word_next : 2 ≤ n
      → (x y : ℕ) → x ≡ (get_or words (n - 2) 0 * 2 ^ 64 + get_or words (n - 1) 0) / 2 ^ (64 - 16) % 2 ^ 64
      → y ≡ (get_or words (n - 2) 0 * 2 ^ 64 + get_or words (n - 1) 0) / 2 ^ (64 - 4) % 2 ^ 64
      → 2 ^ 64 - 1 - bit_xor x y ≡ stream_word s n
  unfolding stream_word
  word_next l x y ex ey =
      let b : m + 4 + 31 * 4 ≡ 64 * n = omega arith in
      ap₂ (λ (x y : ℕ). 2 ^ 64 - 1 - bit_xor x y) (ex ∙ at 16 (lit< tt) ∙ value_cong 2 64 _ _ (λ q _. ap (bit_from s) (sixteenth q))) (ey ∙ at 4 (lit< tt)
      ∙ value_cong 2 64 _ _ (λ q _. ap (bit_from s) (fourth q)))
      ∙ follows s (m + 4) 4 h rule_4 ∙ ap (λ (k : ℕ). number 64 (λ q. bit_from s (k + q))) b
    where
      m : ℕ
      m = 64 * (n - 2)

      sixteenth : (q : ℕ) → m + (16 + q) ≡ m + 4 + 3 * 4 + q
      sixteenth q = omega arith

      fourth : (q : ℕ) → m + (4 + q) ≡ m + 4 + q
      fourth q = omega arith

      at : (k : ℕ) → k < 64
          → (get_or words (n - 2) 0 * 2 ^ 64 + get_or words (n - 1) 0) / 2 ^ (64 - k) % 2 ^ 64 ≡ number 64 (λ q. bit_from s (m + (k + q)))
      at k b =
          let e : 64 * (n - 1) ≡ m + 64 = omega arith in
          ap₂ (λ (a b : ℕ). (a * 2 ^ 64 + b) / 2 ^ (64 - k) % 2 ^ 64) (S.word (n - 2) (omega arith))
          (S.word (n - 1) (omega arith) ∙ value_cong 2 64 _ _ (λ q _. let f : 64 * (n - 1) + q ≡ m + (64 + q) = omega arith in ap (bit_from s) f))
          ∙ window_number (λ q. bit_from s (m + q)) (λ q. sent_lt _) k b
