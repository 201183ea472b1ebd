-- The bits of a byte string: its fields, its bytes, and the string made of given bits.
-- Assumes nothing.
use mathlib.Core.Path.{◌≡◌, refl, sym, ap, ◌∙◌}
use mathlib.Core.List.{List}
use Prim.Native.Nat.{ℕ, zero, suc, ◌+◌, ◌*◌, ◌/◌, ◌%◌, ◌^◌, ◌≤◌, ◌<◌}
use native.Mathlib.Nat.{add_assoc}
use native.Mathlib.Decide.{dec_lt}
use native.Mathlib.Omega.{arith}
use lib.ListN.{length, get_or, get_or-eq_default}
use Rattle.bits.specs.definitions.Bits.{value, number, bit_of, bit_at, field_at, bytes, AllBytes}
use Rattle.bits.proofs.Tabulate.{length_tabulate, get_d_tabulate, tabulate_cong, is_tabulate}
use Rattle.bits.proofs.Value.{value_cong, value_lt, value_append, value_top, value_low, bit_lt, bit_number, number_bits}

pub bit_at_lt : (s : List ℕ) (i : ℕ) → bit_at s i < 2
unfolding bit_at
bit_at_lt s i = bit_lt 8 (get_or s (i / 8) 0) (i % 8)

-- bit q of byte m
pub bit_at_byte : (s : List ℕ) (m q : ℕ) → q < 8 → bit_at s (8 * m + q) ≡ bit_of 8 (get_or s m 0) q
unfolding bit_at
bit_at_byte s m q h =
    let d : (8 * m + q) / 8 ≡ m = omega arith in
    let r : (8 * m + q) % 8 ≡ q = omega arith in
    rw (d, r)

module _ (s : List ℕ) where
  -- a field by its bits
  pub field_is : (i n : ℕ) (f : ℕ → ℕ) → ((q : ℕ) → q < n → bit_at s (i + q) ≡ f q) → field_at s i n ≡ number n f
  unfolding field_at
  field_is i n f h = value_cong 2 n (λ q. bit_at s (i + q)) f h

  pub field_lt : (i n : ℕ) → field_at s i n < 2 ^ n
  unfolding field_at
  field_lt i n = value_lt 2 n (λ q. bit_at s (i + q)) (λ q l. bit_at_lt s (i + q))

  pub field_bit : (i n q : ℕ) → q < n → bit_of n (field_at s i n) q ≡ bit_at s (i + q)
  unfolding field_at
  field_bit i n = bit_number n (λ q. bit_at s (i + q)) (λ q l. bit_at_lt s (i + q))

  pub field_join : (i n m : ℕ) → field_at s i (n + m) ≡ field_at s i n * 2 ^ m + field_at s (i + n) m
  unfolding field_at
  field_join i n m = simp add_assoc (value_append 2 n m (λ q. bit_at s (i + q)))

  -- the upper n, and the lower m, of n + m bits
  pub field_top : (i n m : ℕ) → field_at s i (n + m) / 2 ^ m ≡ field_at s i n
  unfolding field_at
  field_top i n m = value_top 2 n m (λ q. bit_at s (i + q)) (λ q l. bit_at_lt s (i + q))

  pub field_low : (i n m : ℕ) → field_at s i (n + m) % 2 ^ m ≡ field_at s (i + n) m
  unfolding field_at
  field_low i n m = simp add_assoc (value_low 2 n m (λ q. bit_at s (i + q)) (λ q l. bit_at_lt s (i + q)))

  -- the lower m bits of one field, and then the upper k of the next
  pub field_cross : (i n m k l : ℕ)
      → field_at s i (n + m) % 2 ^ m * 2 ^ k + field_at s (i + n + m) (k + l) / 2 ^ l ≡ field_at s (i + n) (m + k)
  field_cross i n m k l = rw (field_low i n m, field_top (i + n + m) k l) (sym (field_join (i + n) m k))

-- the bytes that it touches are kept
pub field_kept : (d l : List ℕ) (i n : ℕ) → ((m : ℕ) → i < 8 * m + 8 → 8 * m < i + n → get_or l m 0 ≡ get_or d m 0) → field_at l i n ≡ field_at d i n
unfolding field_at bit_at
field_kept d l i n h =
    field_is l i n (λ q. bit_at d (i + q)) (λ q c. ap (λ (x : ℕ). bit_of 8 x ((i + q) % 8)) (h ((i + q) / 8) (omega arith) (omega arith)))

module _ (s : List ℕ) (B : AllBytes s) where
  pub byte_field : (m : ℕ) → field_at s (8 * m) 8 ≡ get_or s m 0
  byte_field m = field_is s (8 * m) 8 (bit_of 8 (get_or s m 0)) (bit_at_byte s m) ∙ number_bits 8 (get_or s m 0) (B.byte m)

  -- one byte more
  field_more : (o n : ℕ) → field_at s (8 * o) (8 * suc n) ≡ field_at s (8 * o) (8 * n) * 256 + get_or s (o + n) 0
  field_more o n =
      let e : 8 * suc n ≡ 8 * n + 8 = omega arith in
      let p : 8 * o + 8 * n ≡ 8 * (o + n) = omega arith in
      rw (e, field_join s (8 * o) (8 * n) 8, p, byte_field (o + n))

  -- n bytes as a number are a field
  pub bytes_field : (o n : ℕ) → value 256 n (λ i. get_or s (o + i) 0) ≡ field_at s (8 * o) (8 * n)
  unfolding value field_at
  bytes_field o zero = refl
  bytes_field o (suc n) = ap (λ (v : ℕ). v * 256 + get_or s (o + n) 0) (bytes_field o n) ∙ sym (field_more o n)

-- the string made of given bits
module _ (n : ℕ) (f : ℕ → ℕ) where
  pub length_bytes : length (bytes n f) ≡ n
  unfolding bytes
  length_bytes = length_tabulate n _

  pub get_d_bytes : (m : ℕ) → m < n → get_or (bytes n f) m 0 ≡ number 8 (λ q. f (8 * m + q))
  unfolding bytes
  get_d_bytes m h = get_d_tabulate n _ m 0 h

  pub bytes_cong : (g : ℕ → ℕ) → ((i : ℕ) → i < 8 * n → f i ≡ g i) → bytes n f ≡ bytes n g
  unfolding bytes
  bytes_cong g h = tabulate_cong n _ _ (λ m l. value_cong 2 8 _ _ (λ q c. h (8 * m + q) (omega arith)))

  -- a string with the length and the bits is it
  pub is_bytes : (s : List ℕ) → AllBytes s → length s ≡ n → ((i : ℕ) → i < 8 * n → bit_at s i ≡ f i) → s ≡ bytes n f
  unfolding bytes
  is_bytes s B e h = is_tabulate 0 s n _ e (λ m l. sym (byte_field s B m) ∙ field_is s (8 * m) 8 _ (λ q c. h (8 * m + q) (omega arith)))

  module _ (bit : (i : ℕ) → i < 8 * n → f i < 2) where
    pub bytes_bit : (i : ℕ) → i < 8 * n → bit_at (bytes n f) i ≡ f i
    unfolding bit_at
    bytes_bit i h =
        let m = i / 8 in
        let whole : 8 * m + i % 8 ≡ i = omega arith in
        rw (get_d_bytes m (omega arith)) (bit_number 8 _ (λ q l. bit (8 * m + q) (omega arith)) (i % 8) (omega arith) ∙ ap f whole)

    pub bytes_bytes : AllBytes (bytes n f)
    bytes_bytes = record { byte = λ m. at m (dec_lt m n) }
      where
        at : (m : ℕ) → Dec (m < n) → get_or (bytes n f) m 0 < 256
        at m (yes h) = rw (get_d_bytes m h) (value_lt 2 8 _ (λ q l. bit (8 * m + q) (omega arith)))
        at m (no h) = let out : length (bytes n f) ≤ m = rw length_bytes (omega arith) in rw get_or-eq_default (omega arith)
