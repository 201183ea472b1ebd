-- Two fields in one number of w bits, by arithmetic and by bit operators; and a number's eight bytes, put in a list and loaded from one.
-- Assumes nothing.
use mathlib.Core.Path.{◌≡◌, refl, sym, ap, ◌∙◌}
use mathlib.Core.Logic.{◌⊎◌, inl, inr}
use mathlib.Core.List.{List, [], ◌∷◌, ◌++◌}
use Prim.Native.Nat.{ℕ, zero, suc, ◌+◌, ◌-◌, ◌*◌, ◌/◌, ◌%◌, ◌^◌, ◌≤◌, ◌<◌}
use native.Mathlib.Nat.{mod-lt, lt_of_lt_of_le, mul-suc, pow-suc}
use native.Mathlib.Decide.{dec_lt}
use native.Mathlib.Omega.{arith}
use lib.Arith.{digits_lt}
use lib.Pow.{pow-add, pow_pos, pow_mono, shr_lt, shl_exact}
use lib.Bits.{bit_and, bit_or, and_mask, or_shifted}
use lib.ListN.{length, get_or, take, drop, length-drop, get_or-append}
use lib.Seq.{ext_get_or, length-take-le, get_or-take, get_or-drop, get_or-append-add}
use borrow.Rule.Slice.PartMut.{put_mid, same_len_mid}
use Rattle.std.specs.Int.{from_be_bytes, to_be_bytes}
use Rattle.std.proofs.Common.{w64}
use Rattle.std.proofs.lemmas.Nat.{from_be_bytes-to_be_bytes_8}
use borrow.Author.Tests.{lt-ltb, le-ltb}
use Rattle.bits.specs.definitions.Put.{Put, PutEight}
use Rattle.bits.specs.definitions.Bits.{value, bit_of, bit_at, field_at, loaded_at, AllBytes}
use Rattle.bits.proofs.Value.{value_cong, value_digit}
use Rattle.bits.proofs.Fields.{bytes_field, field_bit}

module _ (w : ℕ) where
  -- `(a << k) | d`
  pub push_bits : (j k a d : ℕ) → j + k ≤ w → a < 2 ^ j → d < 2 ^ k → bit_or (a * 2 ^ k % 2 ^ w) d ≡ a * 2 ^ k + d
  push_bits j k a d h ha hd = ap (λ (v : ℕ). bit_or v d) (shl_exact j k w ha h) ∙ or_shifted a k d hd

  module _ (m k l x y : ℕ) (h : m + k ≤ w) (hy : y < 2 ^ (k + l)) where
    -- the lower m bits of x, and then the upper k of y
    pub cross_lt : x % 2 ^ m * 2 ^ k + y / 2 ^ l < 2 ^ w
    cross_lt = lt_of_lt_of_le (rw (← pow-add 2 m k) at (digits_lt (mod-lt x (pow_pos m)) (shr_lt k l hy))) (pow_mono h)

    -- `((x & (2^m - 1)) << k) | (y >> l)`
    pub cross_bits : bit_or (bit_and x (2 ^ m - 1) * 2 ^ k % 2 ^ w) (y / 2 ^ l) ≡ x % 2 ^ m * 2 ^ k + y / 2 ^ l
    cross_bits =
        ap (λ (v : ℕ). bit_or (v * 2 ^ k % 2 ^ w) (y / 2 ^ l)) (and_mask x m)
        ∙ push_bits m k (x % 2 ^ m) (y / 2 ^ l) h (mod-lt x (pow_pos m)) (shr_lt k l hy)

byte_pow : (k : ℕ) → 2 ^ (8 * k) ≡ 256 ^ k
byte_pow zero = refl
byte_pow (suc k) = rw (mul-suc, pow-add, pow-suc 256 k, byte_pow k)

-- ---- eight bytes as a number, as the library has it

-- they are its digits to the base 256
bytes_value : (b : List ℕ) → from_be_bytes w64 b ≡ value 256 8 (λ i. get_or b i 0)
unfolding value
bytes_value b = digits (get_or b 0 0) (get_or b 1 0) (get_or b 2 0) (get_or b 3 0) (get_or b 4 0) (get_or b 5 0) (get_or b 6 0) (get_or b 7 0)
  where
    digits : (a b c d e f g h : ℕ) → a * 2 ^ 56 + b * 2 ^ 48 + c * 2 ^ 40 + d * 2 ^ 32 + e * 2 ^ 24 + f * 65536 + g * 256 + h
        ≡ (((((((0 * 256 + a) * 256 + b) * 256 + c) * 256 + d) * 256 + e) * 256 + f) * 256 + g) * 256 + h
    digits a b c d e f g h = omega arith

-- what is left where v's eight bytes were copied over those from place o on
pub put_eight : (v o : ℕ) (d b : List ℕ) → v < 2 ^ 64 → o + 8 ≤ length d → b ≡ to_be_bytes w64 v → AllBytes (put_mid o (o + 8 - o) d b)
    → PutEight v o d (put_mid o (o + 8 - o) d b)
put_eight v o d b small room e B = record { room = λ h. eight; none = λ h. absurd (omega arith) }
  where
    l : List ℕ
    l = put_mid o (o + 8 - o) d b

    front : length (take o d) ≡ o
    front = length-take-le o d (omega arith)

    long : length b ≡ 8
    long = ap length e

    rest : o + 8 - o ≡ 8
    rest = omega arith

    behind : (m : ℕ) → get_or l (o + m) 0 ≡ get_or (b ++ drop (o + 8 - o) (drop o d)) m 0
    behind m = ap (λ (k : ℕ). get_or l (k + m) 0) (sym front) ∙ get_or-append-add (take o d) (b ++ drop (o + 8 - o) (drop o d)) m 0

    digit : (i : ℕ) → i < 8 → get_or l (o + i) 0 ≡ get_or b i 0
    digit i h = behind i ∙ get_or-append b (drop (o + 8 - o) (drop o d)) 0 i (omega (arith, long))

    beyond : (m : ℕ) → get_or l (o + (8 + m)) 0 ≡ get_or d (o + (8 + m)) 0
    beyond m =
        behind (8 + m) ∙ ap (λ (k : ℕ). get_or (b ++ drop (o + 8 - o) (drop o d)) (k + m) 0) (sym long)
        ∙ get_or-append-add b (drop (o + 8 - o) (drop o d)) m 0
        ∙ ap (λ (k : ℕ). get_or (drop k (drop o d)) m 0) rest ∙ get_or-drop 8 (drop o d) m 0 ∙ get_or-drop o d (8 + m) 0

    eight : Put 8 v o d l
    eight =
        record {
          long = same_len_mid o (o + 8 - o) d b (omega (arith, long, length-mid));
          bytes = B;
          before = λ m h. get_or-append (take o d) _ 0 m (omega (arith, front)) ∙ get_or-take o d m 0 h;
          after = λ m h. let s : o + (8 + (m - o - 8)) ≡ m = omega arith in ap (λ k. get_or l k 0) (sym s) ∙ beyond (m - o - 8) ∙ ap (λ k. get_or d k 0) s;
          is = sym (bytes_field l B o 8) ∙ value_cong 256 8 _ _ digit ∙ sym (bytes_value b) ∙ ap (from_be_bytes w64) e ∙ from_be_bytes-to_be_bytes_8 v small;
        }
      where
        length-mid : length (take (o + 8 - o) (drop o d)) ≡ 8
        length-mid = length-take-le (o + 8 - o) (drop o d) (omega (arith, length-drop o d)) ∙ rest

-- each byte of what was put
pub put_byte : {n v o : ℕ} {d l : List ℕ} → Put n v o d l → (i : ℕ) → i < n → get_or l (o + i) 0 ≡ v / 2 ^ (8 * (n - 1 - i)) % 256
put_byte {n} {v} {o} {d} {l} P i h =
    sym (value_digit 256 n (λ (k : ℕ). get_or l (o + k) 0) (λ k _. P.bytes.byte (o + k)) i h)
    ∙ rw byte_pow (ap (λ (x : ℕ). x / 256 ^ (n - 1 - i) % 256) (bytes_field l P.bytes o n ∙ P.is))

-- its bits, and the other bits
pub put_bit : {n v o : ℕ} {d l : List ℕ} → Put n v o d l → (q : ℕ) → q < 8 * n → bit_at l (8 * o + q) ≡ bit_of (8 * n) v q
put_bit {n} {v} {o} {d} {l} P q h = sym (field_bit l (8 * o) (8 * n) q h) ∙ ap (λ (x : ℕ). bit_of (8 * n) x q) P.is

pub put_kept : {n v o : ℕ} {d l : List ℕ} → Put n v o d l → (i : ℕ) → (i < 8 * o) ⊎ (8 * (o + n) ≤ i) → bit_at l i ≡ bit_at d i
unfolding bit_at
put_kept P i (inl h) = ap (λ (x : ℕ). bit_of 8 x (i % 8)) (P.before (i / 8) (omega arith))
put_kept P i (inr h) = ap (λ (x : ℕ). bit_of 8 x (i % 8)) (P.after (i / 8) (omega arith))

-- where there are eight bytes they are loaded, and else 0 is
pub loaded_is : (s : List ℕ) (o : ℕ) → o + 8 ≤ length s → loaded_at s o ≡ field_at s (8 * o) 64
unfolding loaded_at
loaded_is s o h = rw (le-ltb (length s) (o + 8) h)

pub loaded_none : (s : List ℕ) (o : ℕ) → length s < o + 8 → 0 ≡ loaded_at s o
unfolding loaded_at
loaded_none s o h = rw (lt-ltb (length s) (o + 8) h)

-- the eight bytes of s from place o on, each read by its place, as a number
module _ (s : List ℕ) (o : ℕ) where
  -- with the first at place k
  abbrev pub listed : ℕ → List ℕ
  listed k =
      get_or s k 0 ∷ get_or s (o + 1) 0 ∷ get_or s (o + 2) 0 ∷ get_or s (o + 3) 0 ∷ get_or s (o + 4) 0 ∷ get_or s (o + 5) 0 ∷ get_or s (o + 6) 0
      ∷ get_or s (o + 7) 0 ∷ []

  pub load_eight : AllBytes s → o + 8 ≤ length s → from_be_bytes w64 (listed o) ≡ loaded_at s o
  unfolding value
  load_eight B h = ap (λ (k : ℕ). from_be_bytes w64 (listed k)) first ∙ bytes_value (listed (o + 0)) ∙ all ∙ sym (loaded_is s o h)
    where
      first : o ≡ o + 0
      first = omega arith

      all : value 256 8 (λ i. get_or s (o + i) 0) ≡ field_at s (8 * o) 64
      all = bytes_field s B o 8

-- what was put is known
put_unique : {n v o : ℕ} {d l k : List ℕ} → Put n v o d l → Put n v o d k → l ≡ k
put_unique {n} {v} {o} {d} {l} {k} P Q = ext_get_or 0 l k (P.long ∙ sym Q.long) (λ m h. at m (dec_lt m o) (dec_lt m (o + n)))
  where
    at : (m : ℕ) → Dec (m < o) → Dec (m < o + n) → get_or l m 0 ≡ get_or k m 0
    at m (yes a) b = P.before m a ∙ sym (Q.before m a)
    at m (no a) (yes b) =
        let e : o + (m - o) ≡ m = omega arith in
        let h : m - o < n = omega arith in
        ap (λ (i : ℕ). get_or l i 0) (sym e) ∙ put_byte P (m - o) h ∙ sym (put_byte Q (m - o) h) ∙ ap (λ (i : ℕ). get_or k i 0) e
    at m (no a) (no b) = P.after m (omega arith) ∙ sym (Q.after m (omega arith))

pub put_eight_unique : {v o : ℕ} {d l k : List ℕ} → PutEight v o d l → PutEight v o d k → l ≡ k
put_eight_unique {v} {o} {d} {l} {k} P Q = at (dec_lt (length d) (o + 8))
  where
    at : Dec (length d < o + 8) → l ≡ k
    at (yes h) = P.none h ∙ sym (Q.none h)
    at (no h) = put_unique (P.room (omega arith)) (Q.room (omega arith))
