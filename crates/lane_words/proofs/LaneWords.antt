-- A frame's lanes and its words: what the functions compute of one word, the words in the lanes' order, and that each way undoes the other.
-- Assumes nothing.
use mathlib.Core.Path.{◌≡◌, refl, sym, ap, ap₂, ◌∙◌, subst}
use mathlib.Core.Bool.{cond}
use mathlib.Core.List.{List}
use Prim.Native.Nat.{ℕ, ◌+◌, ◌-◌, ◌*◌, ◌/◌, ◌%◌, ◌^◌, ◌≤◌, ◌<◌}
use native.Mathlib.Nat.{mod-lt, add_assoc, add-mul, mul_assoc, mul-mod_left, mul-add-mod_self_right, add-zero}
use native.Mathlib.Omega.{arith}
use lib.Arith.{digits_div, digits_mod}
use lib.Pow.{pow-add, pow_pos, shr_lt, shr-shr, shl-shr, shl_lt, split, high, low, mod-pow-add, mod-mod-pow}
use lib.Bits.{bit_or, or_shifted}
use lib.Dec.{eqb}
use lib.ListN.{length, get_or}
use Rattle.bits.specs.definitions.Bits.{bit_of, bit_at, field_at, bytes, AllBytes}
use Rattle.bits.specs.definitions.Words.{word_of, word_at, half_of, row_of}
use Rattle.bits.proofs.Tabulate.{tabulate_cong}
use Rattle.bits.proofs.Value.{bit_lt, number_bits}
use Rattle.bits.proofs.Fields.{field_is, field_lt, field_bit, field_join, field_top, field_low, field_cross}
use Rattle.bits.proofs.Fields.{length_bytes, bytes_cong, is_bytes, bytes_bit, bytes_bytes}
use Rattle.bits.proofs.Words.{word_lt, row_at_lem}
use Rattle.lane_words.specs.definitions.LaneWords.{information_at, lane_words, word_lanes}

-- ---- fields

-- m bits out of the middle of a field
pub field_middle : (s : List ℕ) (i n m k : ℕ) → field_at s i (n + m + k) / 2 ^ k % 2 ^ m ≡ field_at s (i + n) m
field_middle s i n m k = rw (field_top s i (n + m) k) (field_low s i n m)

-- the two numbers of a word with parity bits 0, from the 64 bits of the lanes from its first on, and the 48 after its first 62
pub word_law : (s : List ℕ) (b y : ℕ) {x : ℕ} → x ≡ field_at s b 64 → y / 65536 ≡ field_at s (b + 62) 48
    → (x / 4 ≡ field_at s b 110 * 2 ^ 16 / 2 ^ 64) × (y / 65536 * 65536 ≡ field_at s b 110 * 2 ^ 16 % 2 ^ 64)
word_law s b y {x} e f =
    let hi = x / 4 in
    let lo = y / 65536 * 65536 in
    let upper : hi ≡ field_at s b 62 = ap (λ (v : ℕ). v / 2 ^ 2) e ∙ field_top s b 62 2 in
    let small : lo < 2 ^ 64 = omega (arith, f, field_lt s (b + 62) 48) in
    let sum : hi * 2 ^ 64 + lo ≡ (hi * 2 ^ 48 + y / 65536) * 2 ^ 16 = omega arith in
    let whole : hi * 2 ^ 64 + lo ≡ field_at s b 110 * 2 ^ 16 =
    sum ∙ ap (λ (v : ℕ). v * 2 ^ 16) (ap₂ (λ (u v : ℕ). u * 2 ^ 48 + v) upper f ∙ sym (field_join s b 62 48)) in
    (sym (digits_div hi small) ∙ ap (λ (v : ℕ). v / 2 ^ 64) whole, sym (digits_mod hi small) ∙ ap (λ (v : ℕ). v % 2 ^ 64) whole)

-- ---- two numbers joined

-- `x << k`, in j + k bits
shl_drop : (x j k : ℕ) → x * 2 ^ k % 2 ^ (j + k) ≡ x % 2 ^ j * 2 ^ k
shl_drop x j k = mod-pow-add (x * 2 ^ k) j k ∙ rw (shl-shr, mul-mod_left) (add-zero (x % 2 ^ j * 2 ^ k))

-- `(x << (64 - a)) | (y >> a)`
pub joined_law : (x y a : ℕ) → y < 2 ^ 64 → a < 64 → bit_or (x * 2 ^ (64 - a) % 2 ^ 64) (y / 2 ^ a) ≡ x % 2 ^ a * 2 ^ (64 - a) + y / 2 ^ a
joined_law x y a l h =
    let m = 64 - a in
    let all : 64 ≡ a + m = omega arith in
    let all' : 64 ≡ m + a = omega arith in
    ap (λ (n : ℕ). bit_or (x * 2 ^ m % 2 ^ n) (y / 2 ^ a)) all ∙ ap (λ (v : ℕ). bit_or v (y / 2 ^ a)) (shl_drop x a m)
    ∙ or_shifted (x % 2 ^ a) m (y / 2 ^ a) (shr_lt m a (subst (λ (n : ℕ). y < 2 ^ n) all' l))

-- of two fields, one behind the other
pub joined_fields : (s : List ℕ) (i a b : ℕ) {x y r : ℕ} → a ≤ 64 → x ≡ field_at s i 64 → y ≡ field_at s (i + 64) 64
    → r ≡ x % 2 ^ a * 2 ^ (64 - a) + y / 2 ^ a → i + (64 - a) ≡ b → r ≡ field_at s b 64
joined_fields s i a b h e f er eb =
    let m = 64 - a in
    let all : 64 ≡ m + a = omega arith in
    let all' : a + m ≡ 64 = omega arith in
    let next : i + 64 ≡ i + m + a = omega arith in
    er ∙ ap₂ (λ (u v : ℕ). u % 2 ^ a * 2 ^ m + v / 2 ^ a) (e ∙ ap (field_at s i) all) (f ∙ ap₂ (field_at s) next all) ∙ field_cross s i m a m a
    ∙ ap₂ (field_at s) eb all'

-- ---- a word in two numbers

-- the 64 bits before its last a
pub word_middle : (hi lo a : ℕ) → lo < 2 ^ 64 → a ≤ 62 → hi % 2 ^ a * 2 ^ (64 - a) + lo / 2 ^ a ≡ word_of hi lo / 2 ^ a % 2 ^ 64
unfolding word_of
word_middle hi lo a l h = sym whole
  where
    m : ℕ
    m = 64 - a

    top : ℕ
    top = hi % 2 ^ 62

    all : 64 ≡ a + m
    all = omega arith

    all' : 64 ≡ m + a
    all' = omega arith

    small : lo / 2 ^ a < 2 ^ m
    small = shr_lt m a (subst (λ (n : ℕ). lo < 2 ^ n) all' l)

    regroup : (t p q x y : ℕ) → t * (p * q) + (x * q + y) ≡ (t * p + x) * q + y
    regroup t p q x y = rw (add-mul, mul_assoc, add_assoc)

    above : (top * 2 ^ 64 + lo) / 2 ^ a ≡ top * 2 ^ m + lo / 2 ^ a
    above =
        ap (λ (x : ℕ). x / 2 ^ a)
        (ap₂ (λ (n x : ℕ). top * 2 ^ n + x) all' (sym (split lo a)) ∙ ap (λ (p : ℕ). top * p + (lo / 2 ^ a * 2 ^ a + lo % 2 ^ a)) (pow-add 2 m a)
        ∙ regroup top (2 ^ m) (2 ^ a) (lo / 2 ^ a) (lo % 2 ^ a))
        ∙ high (top * 2 ^ m + lo / 2 ^ a) a (mod-lt lo (pow_pos a))

    whole : (top * 2 ^ 64 + lo) / 2 ^ a % 2 ^ 64 ≡ hi % 2 ^ a * 2 ^ m + lo / 2 ^ a
    whole =
        let rest : 62 ≡ 62 - a + a = omega arith in
        ap₂ (λ (x n : ℕ). x % 2 ^ n) above all ∙ mod-pow-add (top * 2 ^ m + lo / 2 ^ a) a m
        ∙ ap₂ (λ (x y : ℕ). x % 2 ^ a * 2 ^ m + y) (high top m small) (low top m small)
        ∙ ap (λ (x : ℕ). x * 2 ^ m + lo / 2 ^ a) (ap (λ (n : ℕ). hi % 2 ^ n % 2 ^ a) rest ∙ mod-mod-pow hi (62 - a) a)

-- its first 62
pub word_first : (hi lo : ℕ) → lo < 2 ^ 64 → hi % 2 ^ 62 ≡ word_of hi lo / 2 ^ 16 / 2 ^ 48
unfolding word_of
word_first hi lo l = sym (shr-shr (hi % 2 ^ 62 * 2 ^ 64 + lo) 16 48 ∙ high (hi % 2 ^ 62) 64 l)

-- the last of its information
pub word_last : (hi lo a : ℕ) → lo < 2 ^ 64 → a ≤ 48 → lo / 65536 % 2 ^ a ≡ word_of hi lo / 2 ^ 16 % 2 ^ a
unfolding word_of
word_last hi lo a l h =
    let top = hi % 2 ^ 62 in
    let rest : 48 ≡ 48 - a + a = omega arith in
    let shift : (top * 2 ^ 64 + lo) / 2 ^ 16 ≡ top * 2 ^ 48 + lo / 65536 = omega arith in
    sym
    (ap (λ (x : ℕ). x % 2 ^ a)
    (shift ∙ ap (λ (n : ℕ). top * 2 ^ n + lo / 65536) rest ∙ ap (λ (p : ℕ). top * p + lo / 65536) (pow-add 2 (48 - a) a)
    ∙ ap (λ (x : ℕ). x + lo / 65536) (sym (mul_assoc top (2 ^ (48 - a)) (2 ^ a))))
    ∙ mul-add-mod_self_right (top * 2 ^ (48 - a)) (2 ^ a) (lo / 65536))

-- ---- the lanes of a frame's words

-- an information bit of a word
pub bit_information : (w q : ℕ) → q < 110 → bit_of 126 w q ≡ bit_of 110 (w / 2 ^ 16) q
unfolding bit_of
bit_information w q h =
    let e : 126 - 1 - q ≡ 16 + (110 - 1 - q) = omega arith in
    ap (λ (x : ℕ). x % 2) (ap (λ (n : ℕ). w / 2 ^ n) e ∙ sym (shr-shr w 16 (110 - 1 - q)))

module _ (s : List ℕ) where
  -- bit j of the lanes, and it is a bit
  lane_bit : ℕ → ℕ
  lane_bit j = bit_of 126 (word_at s (32 * (j % 1320 / 110) + j / 1320)) (j % 1320 % 110)

  lane_bit_lem : (j : ℕ) → j < 8 * 5280 → lane_bit j < 2
  unfolding lane_bit
  lane_bit_lem j h = bit_lt 126 (word_at s (32 * (j % 1320 / 110) + j / 1320)) (j % 1320 % 110)

  lanes_are : word_lanes s ≡ bytes 5280 lane_bit
  unfolding word_lanes lane_bit
  lanes_are = refl

  pub lanes_length : length (word_lanes s) ≡ 5280
  lanes_length = rw lanes_are (length_bytes 5280 lane_bit)

  pub lanes_bytes : AllBytes (word_lanes s)
  lanes_bytes = rw lanes_are (bytes_bytes 5280 lane_bit lane_bit_lem)

  -- bit q of the word that is j-th in the order of the lanes
  lane_word_bit : (j q : ℕ) → j < 384 → q < 110 → bit_at (word_lanes s) (110 * j + q) ≡ bit_of 126 (word_at s (32 * (j % 12) + j / 12)) q
  unfolding lane_bit
  lane_word_bit j q h l =
      let p : (110 * j + q) / 1320 ≡ j / 12 = omega arith in
      let k : (110 * j + q) % 1320 / 110 ≡ j % 12 = omega arith in
      let r : (110 * j + q) % 1320 % 110 ≡ q = omega arith in
      rw lanes_are (bytes_bit 5280 lane_bit lane_bit_lem (110 * j + q) (omega arith) ∙ rw (p, k, r))

  -- and its information
  pub lanes_field : (j : ℕ) → j < 384 → word_at s (32 * (j % 12) + j / 12) < 2 ^ 126
      → field_at (word_lanes s) (110 * j) 110 ≡ word_at s (32 * (j % 12) + j / 12) / 2 ^ 16
  lanes_field j h l =
      let w = word_at s (32 * (j % 12) + j / 12) in
      field_is (word_lanes s) (110 * j) 110 (bit_of 110 (w / 2 ^ 16)) (λ q b. lane_word_bit j q h b ∙ bit_information w q b)
      ∙ number_bits 110 (w / 2 ^ 16) (shr_lt 110 16 l)

  -- by its two numbers
  pub lanes_word : (j : ℕ) {hi lo : ℕ} → j < 384 → lo < 2 ^ 64 → hi ≡ get_or s (2 * (32 * (j % 12) + j / 12)) 0
      → lo ≡ get_or s (2 * (32 * (j % 12) + j / 12) + 1) 0
      → field_at (word_lanes s) (110 * j) 110 ≡ word_of hi lo / 2 ^ 16
  unfolding word_at
  lanes_word j {hi} {lo} h l p q =
      let same : word_of hi lo ≡ word_at s (32 * (j % 12) + j / 12) = ap₂ word_of p q in
      lanes_field j h (subst (λ (w : ℕ). w < 2 ^ 126) same (word_lt hi lo l)) ∙ ap (λ (w : ℕ). w / 2 ^ 16) (sym same)

-- ---- each way undoes the other

pub information_lt : (a : List ℕ) (i : ℕ) → information_at a i < 2 ^ 110
unfolding information_at
information_lt a i = field_lt a (1320 * (i % 32) + 110 * (i / 32)) 110

-- bit q of word k of lane p
pub information_bit : (a : List ℕ) (k p q : ℕ) → p < 32 → q < 110 → bit_of 110 (information_at a (32 * k + p)) q ≡ bit_at a (1320 * p + 110 * k + q)
unfolding information_at
information_bit a k p q hp hq =
    let lane : (32 * k + p) % 32 ≡ p = omega arith in
    let number : (32 * k + p) / 32 ≡ k = omega arith in
    field_bit a (1320 * ((32 * k + p) % 32) + 110 * ((32 * k + p) / 32)) 110 q hq ∙ ap₂ (λ (x y : ℕ). bit_at a (1320 * x + 110 * y + q)) lane number

-- a word of the lanes has their information
pub word_information : (a : List ℕ) (i : ℕ) → i < 384 → word_at (lane_words a) i / 2 ^ 16 ≡ information_at a i
unfolding lane_words
word_information a i h =
    ap (λ (w : ℕ). w / 2 ^ 16) (row_at_lem 384 (λ i. information_at a i * 2 ^ 16) i h (shl_lt 110 16 (information_lt a i)))
    ∙ shl-shr (information_at a i) 16

-- bit j of the lanes, by the word that holds it
word_bit : (a : List ℕ) (j : ℕ) → j < 8 * 5280 → bit_at a j ≡ bit_of 126 (word_at (lane_words a) (32 * (j % 1320 / 110) + j / 1320)) (j % 1320 % 110)
word_bit a j h =
    let p = j / 1320 in
    let k = j % 1320 / 110 in
    let q = j % 1320 % 110 in
    let parts : 1320 * p + 110 * k + q ≡ j = omega arith in
    sym
    (bit_information (word_at (lane_words a) (32 * k + p)) q (omega arith)
    ∙ ap (λ (v : ℕ). bit_of 110 v q) (word_information a (32 * k + p) (omega arith))
    ∙ information_bit a k p q (omega arith) (omega arith) ∙ ap (bit_at a) parts)

-- the lanes depend on the words' information alone
pub lanes_information : (s t : List ℕ) → ((i : ℕ) → i < 384 → word_at s i / 2 ^ 16 ≡ word_at t i / 2 ^ 16) → word_lanes s ≡ word_lanes t
unfolding word_lanes
lanes_information s t e =
    bytes_cong 5280 _ _
    (λ j h.
    let i = 32 * (j % 1320 / 110) + j / 1320 in
    let q = j % 1320 % 110 in
    bit_information (word_at s i) q (omega arith) ∙ ap (λ (v : ℕ). bit_of 110 v q) (e i (omega arith)) ∙ sym (bit_information (word_at t i) q (omega arith)))

-- the lanes of the words of a frame's lanes are these lanes
pub lanes_words : (a : List ℕ) → AllBytes a → length a ≡ 5280 → word_lanes (lane_words a) ≡ a
unfolding word_lanes
lanes_words a B e = sym (is_bytes 5280 _ a B e (word_bit a))

-- the information of a word of the lanes of a frame's words is the word's
pub words_lanes : (s : List ℕ) (i : ℕ) → i < 384 → word_at s i < 2 ^ 126 → information_at (word_lanes s) i ≡ word_at s i / 2 ^ 16
unfolding information_at
words_lanes s i h l =
    let j = 12 * (i % 32) + i / 32 in
    let from : 1320 * (i % 32) + 110 * (i / 32) ≡ 110 * j = omega arith in
    let same : 32 * (j % 12) + j / 12 ≡ i = omega arith in
    ap (λ (b : ℕ). field_at (word_lanes s) b 110) from ∙ lanes_field s j (omega arith) (subst (λ (k : ℕ). word_at s k < 2 ^ 126) (sym same) l)
    ∙ ap (λ (k : ℕ). word_at s k / 2 ^ 16) same

-- so the words of the lanes of a frame's words are these words, with parity bits 0
pub words_lanes_words : (s : List ℕ) → ((m : ℕ) → get_or s m 0 < 2 ^ 64) → lane_words (word_lanes s) ≡ row_of 384 (λ i. word_at s i / 2 ^ 16 * 2 ^ 16)
unfolding lane_words half_of word_at
words_lanes_words s small =
    tabulate_cong 768 (half_of (λ i. information_at (word_lanes s) i * 2 ^ 16)) (half_of (λ i. word_at s i / 2 ^ 16 * 2 ^ 16))
    (λ m h.
    ap (λ (w : ℕ). cond (eqb (m % 2) 0) (w * 2 ^ 16 / 2 ^ 64) (w * 2 ^ 16 % 2 ^ 64))
    (words_lanes s (m / 2) (omega arith) (word_lt _ _ (small (2 * (m / 2) + 1)))))
