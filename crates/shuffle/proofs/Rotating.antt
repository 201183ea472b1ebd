-- A word's information rotated round its 110 places: in two halves of 55 bits, of which each becomes the end of one and the beginning of the other.
-- Assumes nothing.
use mathlib.Core.Path.{◌≡◌, sym, ap, ap₂, ◌∙◌}
use mathlib.Core.Bool.{cond}
use Prim.Native.Nat.{ℕ, ◌+◌, ◌-◌, ◌*◌, ◌/◌, ◌%◌, ◌^◌, ◌<◌, ◌≤◌}
use native.Mathlib.Nat.{one-mul, mod-lt, mod-eq_of_lt}
use native.Mathlib.Decide.{dec_lt}
use native.Mathlib.Omega.{arith}
use lib.Arith.{digits_lt}
use lib.Pow.{pow-lt}
use lib.Bits.{bit_and, bit_or}
use lib.Dec.{ltb, lit<}
use borrow.Author.Tests.{lt-ltb, le-ltb}
use Rattle.bits.specs.definitions.Bits.{number, bit_of}
use Rattle.bits.specs.definitions.Words.{word_of}
use Rattle.bits.proofs.Value.{value_cong, value_lt, value_append, value_top, value_low, bit_lt, number_bits}
use Rattle.bits.proofs.Joins.{cross_lt, cross_bits}
use Rattle.shuffle.specs.private.Rotation.{rotated_from, rotated, crossed, rotated_first}

pow_64 : (n : ℕ) → n < 55 → 2 ^ n < 2 ^ 64
pow_64 n h = let l : n < 64 = omega arith in pow-lt l

-- `((x & ((1 << n) - 1)) << (55 - n)) | (y >> n)`
pub cross_law : (n x y : ℕ) → n < 55 → y < 2 ^ 55
    → (bit_or (bit_and x (1 * 2 ^ n % 2 ^ 64 - 1) * 2 ^ (55 - n) % 2 ^ 64) (y / 2 ^ n) ≡ crossed n x y) × (crossed n x y < 2 ^ 55)
unfolding crossed
cross_law n x y h l =
    let p : 2 ^ n < 2 ^ 64 = pow_64 n h in
    let e : 55 - n + n ≡ 55 = omega arith in
    let l' : y < 2 ^ (55 - n + n) = rw e l in
    (rw (one-mul, mod-eq_of_lt p) (cross_bits 64 n (55 - n) n x y (omega arith) l'), cross_lt 55 n (55 - n) n x y (omega arith) l')

-- a number of 55 bits by those of two others
crossed_is : (n : ℕ) → n ≤ 55 → (g h F : ℕ → ℕ) → ((i : ℕ) → g i < 2) → ((i : ℕ) → h i < 2)
    → ((i : ℕ) → i < n → F i ≡ g (55 - n + i)) → ((i : ℕ) → i < 55 - n → F (n + i) ≡ h i) → number 55 F ≡ crossed n (number 55 g) (number 55 h)
unfolding crossed
crossed_is n l g h F bg bh p q =
    let e : 55 ≡ n + (55 - n) = omega arith in
    let d : 55 ≡ 55 - n + n = omega arith in
    ap (λ (m : ℕ). number m F) e ∙ value_append 2 n (55 - n) F
    ∙ ap₂ (λ (a b : ℕ). a * 2 ^ (55 - n) + b)
    (value_cong 2 n F (λ i. g (55 - n + i)) p ∙ sym (ap (λ (m : ℕ). number m g % 2 ^ n) d ∙ value_low 2 (55 - n) n g (λ i _. bg i)))
    (value_cong 2 (55 - n) (λ i. F (n + i)) h q ∙ sym (ap (λ (m : ℕ). number m h / 2 ^ n) d ∙ value_top 2 (55 - n) n h (λ i _. bh i)))

-- a word as two halves of its information and its parity
parts : (f : ℕ → ℕ) → number 126 f ≡ (number 55 f * 2 ^ 55 + number 55 (λ i. f (55 + i))) * 2 ^ 16 + number 16 (λ i. f (110 + i))
parts f = value_append 2 110 16 f ∙ ap (λ (v : ℕ). v * 2 ^ 16 + number 16 (λ i. f (110 + i))) (value_append 2 55 55 f)

back_in : (n r : ℕ) → r < 110 → rotated_from n r ≡ (r + (110 - n)) % 110
unfolding rotated_from
back_in n r h = rw (lt-ltb r 110 h)

back_out : (n r : ℕ) → 110 ≤ r → rotated_from n r ≡ r
unfolding rotated_from
back_out n r h = rw (le-ltb r 110 h)

-- the bits f rotated by n places
module _ (n : ℕ) (h : n < 110) (f : ℕ → ℕ) (bit : (i : ℕ) → f i < 2) where
  first : ℕ
  first = number 55 f

  second : ℕ
  second = number 55 (λ i. f (55 + i))

  at : (r q : ℕ) → r < 110 → (r + (110 - n)) % 110 ≡ q → f (rotated_from n r) ≡ f q
  at r q l e = ap f (back_in n r l ∙ e)

  rotated_first_lem : number 55 (λ r. f (rotated_from n r)) ≡ rotated_first n first second
  unfolding rotated_first first second
  rotated_first_lem = go (dec_lt n 55)
    where
      go : Dec (n < 55) → number 55 (λ r. f (rotated_from n r)) ≡ cond (ltb n 55) (crossed n second first) (crossed (n - 55) first second)
      go (yes l) =
          rw (lt-ltb n 55 l)
          (crossed_is n (omega arith) (λ i. f (55 + i)) f (λ r. f (rotated_from n r)) (λ i. bit (55 + i)) bit
          (λ i b. at i (55 + (55 - n + i)) (omega arith) (omega arith)) (λ i b. at (n + i) i (omega arith) (omega arith)))
      go (no l) =
          rw (le-ltb n 55 (omega arith))
          (crossed_is (n - 55) (omega arith) f (λ i. f (55 + i)) (λ r. f (rotated_from n r)) bit (λ i. bit (55 + i))
          (λ i b. at i (55 - (n - 55) + i) (omega arith) (omega arith)) (λ i b. at (n - 55 + i) (55 + i) (omega arith) (omega arith)))

  rotated_parity : number 16 (λ r. f (rotated_from n (110 + r))) ≡ number 16 (λ r. f (110 + r))
  rotated_parity = value_cong 2 16 _ _ (λ r b. ap f (back_out n (110 + r) (omega arith)))

-- the second half is the first of the bits that begin with it
rotated_second : (n : ℕ) → n < 110 → (f : ℕ → ℕ) → ((i : ℕ) → f i < 2)
    → number 55 (λ r. f (rotated_from n (55 + r))) ≡ rotated_first n (number 55 (λ i. f (55 + i))) (number 55 f)
unfolding first second
rotated_second n h f bit =
    value_cong 2 55 _ _ (λ r b. ap f (back_in n (55 + r) (omega arith) ∙ other r b ∙ ap (λ (q : ℕ). (q + 55) % 110) (sym (back_in n r (omega arith)))))
    ∙ rotated_first_lem n h (λ i. f ((i + 55) % 110)) (λ i. bit ((i + 55) % 110))
    ∙ ap₂ (rotated_first n)
    (value_cong 2 55 _ _ (λ i b. let e : (i + 55) % 110 ≡ 55 + i = omega arith in ap f e))
    (value_cong 2 55 _ _ (λ i b. let e : (55 + i + 55) % 110 ≡ i = omega arith in ap f e))
  where
    other : (r : ℕ) → r < 55 → (55 + r + (110 - n)) % 110 ≡ ((r + (110 - n)) % 110 + 55) % 110
    other r b = omega arith

-- the word of the numbers hi and lo, rotated
rotated_law : (n hi lo : ℕ) → n < 110 → hi < 2 ^ 62 → lo < 2 ^ 64
    → rotated n (hi * 2 ^ 64 + lo)
    ≡ (rotated_first n (hi / 128) (hi % 128 * 2 ^ 48 + lo / 65536) * 2 ^ 55 + rotated_first n (hi % 128 * 2 ^ 48 + lo / 65536) (hi / 128)) * 2 ^ 16 + lo % 65536
unfolding rotated first second
rotated_law n hi lo h a b =
    parts (λ r. f (rotated_from n r))
    ∙ ap₂ (λ (v z : ℕ). v * 2 ^ 16 + z)
    (ap₂ (λ (x y : ℕ). x * 2 ^ 55 + y)
    (rotated_first_lem n h f bit ∙ ap₂ (rotated_first n) one two)
    (rotated_second n h f bit ∙ ap₂ (rotated_first n) two one))
    (rotated_parity n h f bit ∙ three)
  where
    w : ℕ
    w = hi * 2 ^ 64 + lo

    f : ℕ → ℕ
    f = bit_of 126 w

    bit : (i : ℕ) → f i < 2
    bit i = bit_lt 126 w i

    whole : (number 55 f * 2 ^ 55 + number 55 (λ i. f (55 + i))) * 2 ^ 16 + number 16 (λ i. f (110 + i)) ≡ hi * 2 ^ 64 + lo
    whole = sym (parts f) ∙ number_bits 126 w (digits_lt a b)

    lt1 : number 55 f < 2 ^ 55
    lt1 = value_lt 2 55 f (λ i _. bit i)

    lt2 : number 55 (λ i. f (55 + i)) < 2 ^ 55
    lt2 = value_lt 2 55 (λ i. f (55 + i)) (λ i _. bit (55 + i))

    lt3 : number 16 (λ i. f (110 + i)) < 2 ^ 16
    lt3 = value_lt 2 16 (λ i. f (110 + i)) (λ i _. bit (110 + i))

    split : (x y z : ℕ) → x < 2 ^ 55 → y < 2 ^ 55 → z < 2 ^ 16 → (x * 2 ^ 55 + y) * 2 ^ 16 + z ≡ hi * 2 ^ 64 + lo
        → (x ≡ hi / 128) × (y ≡ hi % 128 * 2 ^ 48 + lo / 65536) × (z ≡ lo % 65536)
    split x y z hx hy hz e = (omega arith, omega arith, omega arith)

    one : number 55 f ≡ hi / 128
    one = (split _ _ _ lt1 lt2 lt3 whole).0

    two : number 55 (λ i. f (55 + i)) ≡ hi % 128 * 2 ^ 48 + lo / 65536
    two = (split _ _ _ lt1 lt2 lt3 whole).1

    three : number 16 (λ i. f (110 + i)) ≡ lo % 65536
    three = (split _ _ _ lt1 lt2 lt3 whole).2

-- the two halves as the code picks them
pub rotated_lt : (n x y : ℕ) → n < 55 → crossed n y x ≡ rotated_first n x y
unfolding rotated_first
rotated_lt n x y h = rw (lt-ltb n 55 h)

pub rotated_ge : (n x y : ℕ) → 55 ≤ n → crossed (n - 55) x y ≡ rotated_first n x y
unfolding rotated_first
rotated_ge n x y h = rw (le-ltb n 55 h)

-- the two halves and the parity as two numbers again
pub rotate_law : (n hi lo a b : ℕ) → n < 110 → lo < 2 ^ 64 → a < 2 ^ 55 → b < 2 ^ 55
    → a ≡ rotated_first n (hi % 2 ^ 62 / 128) (hi % 2 ^ 62 % 128 * 2 ^ 48 + lo / 65536)
    → b ≡ rotated_first n (hi % 2 ^ 62 % 128 * 2 ^ 48 + lo / 65536) (hi % 2 ^ 62 / 128)
    → word_of (a * 128 + b / 2 ^ 48) (b % 2 ^ 48 * 65536 + lo % 65536) ≡ rotated n (word_of hi lo)
unfolding word_of
rotate_law n hi lo a b h hl la lb p q =
    let top : a * 128 + b / 2 ^ 48 < 2 ^ 62 = omega arith in
    let joined : (a * 128 + b / 2 ^ 48) * 2 ^ 64 + (b % 2 ^ 48 * 65536 + lo % 65536) ≡ (a * 2 ^ 55 + b) * 2 ^ 16 + lo % 65536 = omega arith in
    rw (mod-eq_of_lt top)
    (joined ∙ ap₂ (λ (x y : ℕ). (x * 2 ^ 55 + y) * 2 ^ 16 + lo % 65536) p q ∙ sym (rotated_law n (hi % 2 ^ 62) lo h (mod-lt hi (lit< tt)) hl))
