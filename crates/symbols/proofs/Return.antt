-- The way there and back, as specs/statements/Frame states it: the words of a frame of words are those words, and a frame with the right pilots is the
-- frame of its words.
-- Assumes nothing.
use mathlib.Core.Path.{◌≡◌, refl, sym, ap, ap₂, ◌∙◌}
use mathlib.Core.Bool.{true, cond}
use mathlib.Core.List.{List}
use Prim.Native.Nat.{ℕ, ◌+◌, ◌-◌, ◌*◌, ◌/◌, ◌%◌, ◌^◌, ◌≤◌, ◌<◌}
use native.Mathlib.Nat.{mod-eq_of_lt}
use native.Mathlib.Decide.{ℕ_discrete, dec_lt}
use native.Mathlib.Omega.{arith}
use lib.Dec.{T, eqb, ltb, ltb→lt}
use lib.ListN.{length, get_or, get_or-eq_default}
use lib.Arith.{digits_div, digits_mod}
use borrow.Author.Tests.{eq-eqb, ne_eqb}
use Rattle.bits.specs.definitions.Bits.{number, bit_of, bit_at, AllBytes}
use Rattle.bits.specs.definitions.Words.{word_of, word_at, half_of, row_of}
use Rattle.bits.proofs.Table.{every, table_rule}
use Rattle.bits.proofs.Tabulate.{length_tabulate, get_d_tabulate, is_tabulate}
use Rattle.bits.proofs.Value.{value_cong, value_lt, bit_lt, bit_number, number_bits}
use Rattle.bits.proofs.Fields.{bit_at_lt, bit_at_byte}
use Rattle.bits.proofs.Words.{word_lt, row_at_lem, row_cong}
use Rattle.shuffle.specs.definitions.Shuffle.{place, unplace}
use Rattle.symbols.specs.definitions.Mapping.{lane_of, place_of, payload_at, symbol_of, bit_in}
use Rattle.pilots.specs.definitions.Table5.{pilots}
use Rattle.pilots.specs.definitions.Pilots.{locks}
use Rattle.pilots.proofs.Lock.{pilots_lock}
use Rattle.symbols.specs.definitions.Frame.{carried_bit, payload, symbol_at, frame_of, placed_bit, arrived, words_of}
use Rattle.symbols.specs.statements.Frame.{FramePlaces, WordsBack, FrameBack}
use Rattle.shuffle.proofs.Places.{unplace_place, place_unplace, place_lt, unplace_lt}
use Rattle.symbols.proofs.Places.{symbol_lt, bit_in_lt, lane_back, place_back, lane_lt, place_of_lt, symbol_back, bit_back}

-- ---- payload symbols in the frame

pub payload_lt : (m : ℕ) → m < 6048 → payload_at m < 6144
unfolding payload_at
payload_lt m h = omega arith

payload_back : (t : ℕ) → (t % 64 ≡ 0 → ⊥) → payload_at (63 * (t / 64) + t % 64 - 1) ≡ t
unfolding payload_at
payload_back t n = omega arith

pub symbol_payload : (s : List ℕ) (m : ℕ) → symbol_at s (payload_at m) ≡ payload s m
unfolding symbol_at payload_at
symbol_payload s m =
    let t = 64 * (m / 63) + 1 + m % 63 in
    let n : t % 64 ≡ 0 → ⊥ = λ z. omega arith in
    let e : 63 * (t / 64) + t % 64 - 1 ≡ m = omega arith in
    rw (ne_eqb (t % 64) 0 n) (ap (payload s) e)

pub frame_payload : (s : List ℕ) (m : ℕ) → m < 6048 → get_or (frame_of s) (payload_at m) 0 ≡ payload s m
unfolding frame_of
frame_payload s m h = get_d_tabulate 6144 (symbol_at s) (payload_at m) 0 (payload_lt m h) ∙ symbol_payload s m

-- and a pilot is the first of each 64
pub frame_pilot : (s : List ℕ) (k : ℕ) → k < 96 → get_or (frame_of s) (64 * k) 0 ≡ get_or pilots k 0
unfolding frame_of symbol_at
frame_pilot s k h =
    let m : 64 * k % 64 ≡ 0 = omega arith in
    let d : 64 * k / 64 ≡ k = omega arith in
    get_d_tabulate 6144 (symbol_at s) (64 * k) 0 (omega arith) ∙ rw (m, d)

frame_length : (s : List ℕ) → length (frame_of s) ≡ 6144
unfolding frame_of
frame_length s = length_tabulate 6144 (symbol_at s)

pub frame_places : FramePlaces
unfolding payload
frame_places s = (frame_length s, frame_pilot s, symbol)
  where
    symbol : (k l : ℕ) → k < 12 → l < 504 → get_or (frame_of s) (payload_at (504 * k + l)) 0 ≡ number 8 (carried_bit s k l)
    symbol k l hk hl =
        let d : (504 * k + l) / 504 ≡ k = omega arith in
        let r : (504 * k + l) % 504 ≡ l = omega arith in
        frame_payload s (504 * k + l) (omega arith) ∙ ap₂ (λ (a b : ℕ). number 8 (carried_bit s a b)) d r

carried_lt : (s : List ℕ) (k l i : ℕ) → carried_bit s k l i < 2
unfolding carried_bit
carried_lt s k l i = bit_lt 126 _ _

-- every symbol is a byte
pilots_test : T (every (λ _ b. ltb b 256) 0 pilots)
unfolding pilots
pilots_test = tt

pilots_length : length pilots ≡ 96
unfolding pilots
pilots_length = refl

pub frame_bytes : (s : List ℕ) → AllBytes (frame_of s)
unfolding frame_of symbol_at payload
frame_bytes s = record { byte = λ t. at t (dec_lt t 6144) (ℕ_discrete (t % 64) 0) }
  where
    at : (t : ℕ) → Dec (t < 6144) → Dec (t % 64 ≡ 0) → get_or (frame_of s) t 0 < 256
    at t (no h) _ = let out : length (frame_of s) ≤ t = rw (frame_length s) (omega arith) in rw get_or-eq_default (omega arith)
    at t (yes h) (yes e) =
        rw (get_d_tabulate 6144 (symbol_at s) t 0 h, eq-eqb (t % 64) 0 e)
        (ltb→lt (get_or pilots (t / 64) 0) 256 (table_rule (λ _ b. ltb b 256) pilots pilots_test (t / 64) (rw pilots_length (omega arith))))
    at t (yes h) (no e) = rw (get_d_tabulate 6144 (symbol_at s) t 0 h, ne_eqb (t % 64) 0 e) (value_lt 2 8 _ (λ i _. carried_lt s _ _ i))

-- so that it locks
pub frame_locks : (s : List ℕ) → locks (frame_of s) 0 ≡ true
frame_locks s = pilots_lock (frame_of s) (frame_length s) (frame_pilot s)

-- ---- a word's bits

pub placed_lt : (f : List ℕ) (k p r : ℕ) → placed_bit f k p r < 2
unfolding placed_bit
placed_lt f k p r = bit_at_lt f _

pub arrived_lt : (f : List ℕ) (i : ℕ) → arrived f i < 2 ^ 126
unfolding arrived
arrived_lt f i = value_lt 2 126 _ (λ q _. placed_lt f (i / 32) (i % 32) (place (i % 32) q))

pub arrived_bit : (f : List ℕ) (i q : ℕ) → q < 126 → bit_of 126 (arrived f i) q ≡ placed_bit f (i / 32) (i % 32) (place (i % 32) q)
unfolding arrived
arrived_bit f i q h = bit_number 126 _ (λ q _. placed_lt f (i / 32) (i % 32) (place (i % 32) q)) q h

-- the bit of a frame of words that stands at place r of word k of lane p
pub placed_frame : (s : List ℕ) (k p r : ℕ) → k < 12 → p < 32 → r < 126 → placed_bit (frame_of s) k p r ≡ bit_of 126 (word_at s (32 * k + p)) (unplace p r)
unfolding placed_bit payload carried_bit
placed_frame s k p r hk hp hr =
    bit_at_byte (frame_of s) (payload_at m) (bit_in p r) (bit_in_lt p r hp hr)
    ∙ ap (λ (x : ℕ). bit_of 8 x (bit_in p r)) (frame_payload s m (omega (arith, symbol_lt p r hp hr)))
    ∙ bit_number 8 (carried_bit s (m / 504) (m % 504)) (λ i _. carried_lt s (m / 504) (m % 504) i) (bit_in p r) (bit_in_lt p r hp hr)
    ∙ ap₂ (λ (a b : ℕ). carried_bit s a b (bit_in p r)) word row
    ∙ ap₂ (λ (a b : ℕ). bit_of 126 (word_at s (32 * k + a)) (unplace a b)) (lane_back p r hp hr) (place_back p r hp hr)
  where
    m : ℕ
    m = 504 * k + symbol_of p r

    word : m / 504 ≡ k
    word = omega (arith, symbol_lt p r hp hr)

    row : m % 504 ≡ symbol_of p r
    row = omega (arith, symbol_lt p r hp hr)

-- ---- there and back

pub arrived_frame : (s : List ℕ) (i : ℕ) → i < 384 → word_at s i < 2 ^ 126 → arrived (frame_of s) i ≡ word_at s i
unfolding arrived
arrived_frame s i h l =
    let e : 32 * (i / 32) + i % 32 ≡ i = omega arith in
    value_cong 2 126 _ _ (λ q c.
    placed_frame s (i / 32) (i % 32) (place (i % 32) q) (omega arith) (omega arith) (place_lt (i % 32) q c)
    ∙ ap₂ (λ (a b : ℕ). bit_of 126 (word_at s a) b) e (unplace_place (i % 32) q))
    ∙ number_bits 126 (word_at s i) l

-- a row with nothing above its words is the row of its words
row_is : (s : List ℕ) → ((j : ℕ) → get_or s j 0 < 2 ^ 64) → length s ≡ 768 → ((i : ℕ) → i < 384 → get_or s (2 * i) 0 < 2 ^ 62) → row_of 384 (word_at s) ≡ s
unfolding half_of word_at word_of
row_is s small long clean = sym (is_tabulate 0 s 768 (half_of (word_at s)) long (λ j h. at j h (ℕ_discrete (j % 2) 0)))
  where
    word_is : (i : ℕ) → i < 384 → word_at s i ≡ get_or s (2 * i) 0 * 2 ^ 64 + get_or s (2 * i + 1) 0
    word_is i h = ap (λ (v : ℕ). v * 2 ^ 64 + get_or s (2 * i + 1) 0) (mod-eq_of_lt (clean i h))

    at : (j : ℕ) → j < 768 → Dec (j % 2 ≡ 0) → get_or s j 0 ≡ cond (eqb (j % 2) 0) (word_at s (j / 2) / 2 ^ 64) (word_at s (j / 2) % 2 ^ 64)
    at j h (yes e) =
        let d : 2 * (j / 2) ≡ j = omega arith in
        rw (eq-eqb (j % 2) 0 e)
        (sym (ap (λ (v : ℕ). v / 2 ^ 64) (word_is (j / 2) (omega arith)) ∙ digits_div (get_or s (2 * (j / 2)) 0) (small (2 * (j / 2) + 1))
        ∙ ap (λ (k : ℕ). get_or s k 0) d))
    at j h (no e) =
        let d : 2 * (j / 2) + 1 ≡ j = omega arith in
        rw (ne_eqb (j % 2) 0 e)
        (sym (ap (λ (v : ℕ). v % 2 ^ 64) (word_is (j / 2) (omega arith)) ∙ digits_mod (get_or s (2 * (j / 2)) 0) (small (2 * (j / 2) + 1))
        ∙ ap (λ (k : ℕ). get_or s k 0) d))

pub words_back : WordsBack
unfolding words_of word_at
words_back s h =
    let back = row_cong 384 _ _ (λ i l. arrived_frame s i l (word_lt (get_or s (2 * i) 0) (get_or s (2 * i + 1) 0) (h (2 * i + 1)))) in
    (back, λ long clean. back ∙ row_is s h long clean)

-- ---- and the other way: a frame with the right pilots

placed_is : (f : List ℕ) (k p r : ℕ) → placed_bit f k p r ≡ bit_at f (8 * payload_at (504 * k + symbol_of p r) + bit_in p r)
unfolding placed_bit
placed_is f k p r = refl

-- bit i of a payload symbol, put together from the words of the frame
carried_words : (f : List ℕ) (k l i : ℕ) → k < 12 → l < 504 → i < 8 → carried_bit (words_of f) k l i ≡ bit_at f (8 * payload_at (504 * k + l) + i)
unfolding carried_bit words_of
carried_words f k l i hk hl hi =
    ap (λ (v : ℕ). bit_of 126 v (unplace p r)) (row_at_lem 384 (arrived f) w (omega (arith, lt)) (arrived_lt f w))
    ∙ arrived_bit f w (unplace p r) (unplace_lt p r (place_of_lt l i hl hi))
    ∙ ap₂ (λ (a b : ℕ). placed_bit f a b (place b (unplace p r))) word lane
    ∙ ap (placed_bit f k p) (place_unplace p r) ∙ placed_is f k p r
    ∙ ap₂ (λ (a b : ℕ). bit_at f (8 * payload_at (504 * k + a) + b)) (symbol_back l i hl hi) (bit_back l i hl hi)
  where
    p : ℕ
    p = lane_of l (i / 2)

    r : ℕ
    r = place_of l i

    w : ℕ
    w = 32 * k + p

    lt : p < 32
    lt = lane_lt l i hl hi

    word : w / 32 ≡ k
    word = omega (arith, lt)

    lane : w % 32 ≡ p
    lane = omega (arith, lt)

-- a payload symbol is the frame's
payload_words : (f : List ℕ) → AllBytes f → (m : ℕ) → m < 6048 → payload (words_of f) m ≡ get_or f (payload_at m) 0
unfolding payload
payload_words f B m h =
    let e : 504 * (m / 504) + m % 504 ≡ m = omega arith in
    value_cong 2 8 _ _ (λ i l.
    carried_words f (m / 504) (m % 504) i (omega arith) (omega arith) l ∙ ap (λ (a : ℕ). bit_at f (8 * payload_at a + i)) e
    ∙ bit_at_byte f (payload_at m) i l)
    ∙ number_bits 8 (get_or f (payload_at m) 0) (B.byte (payload_at m))

pub frame_back : FrameBack
unfolding frame_of symbol_at
frame_back f B = (λ m h. frame_payload (words_of f) m h ∙ payload_words f B m h, whole)
  where
    whole : length f ≡ 6144 → ((k : ℕ) → k < 96 → get_or f (64 * k) 0 ≡ get_or pilots k 0) → frame_of (words_of f) ≡ f
    whole long P = sym (is_tabulate 0 f 6144 (symbol_at (words_of f)) long (λ t h. at t h (ℕ_discrete (t % 64) 0)))
      where
        at : (t : ℕ) → t < 6144 → Dec (t % 64 ≡ 0)
            → get_or f t 0 ≡ cond (eqb (t % 64) 0) (get_or pilots (t / 64) 0) (payload (words_of f) (63 * (t / 64) + t % 64 - 1))
        at t h (yes e) = let d : t ≡ 64 * (t / 64) = omega arith in rw (eq-eqb (t % 64) 0 e) (ap (λ (k : ℕ). get_or f k 0) d ∙ P (t / 64) (omega arith))
        at t h (no e) =
            rw (ne_eqb (t % 64) 0 e)
            (sym (payload_words f B (63 * (t / 64) + t % 64 - 1) (omega arith) ∙ ap (λ (k : ℕ). get_or f k 0) (payload_back t e)))
