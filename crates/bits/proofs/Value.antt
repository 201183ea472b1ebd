-- A number by its digits to the base b, the first on top; and by its bits.
-- Assumes nothing.
use mathlib.Core.Path.{◌≡◌, refl, sym, ap, ap₂, ◌∙◌}
use Prim.Native.Nat.{ℕ, zero, suc, ◌+◌, ◌-◌, ◌*◌, ◌/◌, ◌%◌, ◌^◌, ◌≤◌, ◌<◌}
use native.Mathlib.Nat.{le_refl, sub_self, add-zero, add-suc, add_assoc, mul-one, mul_assoc, add-mul, pow-zero, pow-suc, sub-zero, div-eq_of_lt, div-one}
use native.Mathlib.Nat.{div-div-eq-div-mul, div-add-mod', lt_of_lt_of_le}
use native.Mathlib.Omega.{arith}
use lib.Arith.{digits_lt, digits_div, digits_mod}
use lib.Pow.{pow_mono, shr-shr, shl-shr, field, mod-mod-pow}
use lib.Bits.{bit_and, bit_xor, differ, and_shr, and_mod, xor_shr}
use Rattle.bits.specs.definitions.Bits.{value, number, bit_of}
use Rattle.bits.proofs.Xor.{xor_odd, xor_double}

module _ (b : ℕ) where
  -- it depends on the first n digits alone
  pub value_cong : (n : ℕ) (f g : ℕ → ℕ) → ((i : ℕ) → i < n → f i ≡ g i) → value b n f ≡ value b n g
  unfolding value
  value_cong zero f g h = refl
  value_cong (suc n) f g h = λ k. value_cong n f g (λ i l. h i (omega arith)) k * b + h n (le_refl (suc n)) k

  pub value_lt : (n : ℕ) (f : ℕ → ℕ) → ((i : ℕ) → i < n → f i < b) → value b n f < b ^ n
  unfolding value
  value_lt zero f h = rw pow-zero (le_refl 1)
  value_lt (suc n) f h = rw pow-suc (digits_lt (value_lt n f (λ i l. h i (omega arith))) (h n (le_refl (suc n))))

  pub value_append : (n m : ℕ) (f : ℕ → ℕ) → value b (n + m) f ≡ value b n f * b ^ m + value b m (λ i. f (n + i))
  unfolding value
  value_append n zero f = rw (add-zero n, pow-zero, mul-one) (omega arith)
  value_append n (suc m) f = rw (add-suc, pow-suc, value_append n m f, add-mul, mul_assoc, add_assoc)

  -- the upper n, and the lower m, of n + m digits
  module _ (n m : ℕ) (f : ℕ → ℕ) (h : (i : ℕ) → i < n + m → f i < b) where
    lower_lt : value b m (λ i. f (n + i)) < b ^ m
    lower_lt = value_lt m (λ i. f (n + i)) (λ i l. h (n + i) (omega arith))

    pub value_top : value b (n + m) f / b ^ m ≡ value b n f
    value_top = rw value_append (digits_div (value b n f) lower_lt)

    pub value_low : value b (n + m) f % b ^ m ≡ value b m (λ i. f (n + i))
    value_low = rw value_append (digits_mod (value b n f) lower_lt)

  pub value_digit : (n : ℕ) (f : ℕ → ℕ) → ((i : ℕ) → i < n → f i < b) → (i : ℕ) → i < n → value b n f / b ^ (n - 1 - i) % b ≡ f i
  unfolding value
  value_digit n f h i l =
      let m = n - 1 - i in
      let e : n ≡ suc i + m = omega arith in
      ap (λ (k : ℕ). value b k f / b ^ m % b) e
      ∙ ap (λ (v : ℕ). v % b) (value_top (suc i) m f (λ k j. h k (omega arith))) ∙ digits_mod (value b i f) (h i l)

  -- the first j of a number's n digits
  first_digits : (n a j : ℕ) → a < b ^ n → j ≤ n → value b j (λ i. a / b ^ (n - 1 - i) % b) ≡ a / b ^ (n - j)
  unfolding value
  first_digits n a zero h l = rw sub-zero (sym (div-eq_of_lt h))
  first_digits n a (suc j) h l =
      let k = n - suc j in
      let above : n - j ≡ suc k = omega arith in
      let here : n - 1 - j ≡ k = omega arith in
      rw (first_digits n a j h (omega arith), above, here, pow-suc, ← div-div-eq-div-mul) (div-add-mod' (a / b ^ k) b)

  -- a number's digits make it again
  pub value_digits : (n a : ℕ) → a < b ^ n → value b n (λ i. a / b ^ (n - 1 - i) % b) ≡ a
  value_digits n a h = rw (first_digits n a n h (le_refl n), sub_self, pow-zero) (div-one a)

pub bit_lt : (n w i : ℕ) → bit_of n w i < 2
unfolding bit_of
bit_lt n w i = omega arith

pub bit_number : (n : ℕ) (f : ℕ → ℕ) → ((i : ℕ) → i < n → f i < 2) → (i : ℕ) → i < n → bit_of n (number n f) i ≡ f i
unfolding bit_of
bit_number n f h i l = value_digit 2 n f h i l

pub number_bits : (n a : ℕ) → a < 2 ^ n → number n (bit_of n a) ≡ a
unfolding bit_of
number_bits n a h = value_digits 2 n a h

-- the number of the inverted bits
pub number_inverted : (n : ℕ) (f : ℕ → ℕ) → ((i : ℕ) → i < n → f i < 2) → number n (λ i. 1 - f i) ≡ 2 ^ n - 1 - number n f
unfolding value
number_inverted n f h = let e : number n (λ i. 1 - f i) + number n f + 1 ≡ 2 ^ n = sum n h in omega arith
  where
    sum : (n : ℕ) → ((i : ℕ) → i < n → f i < 2) → number n (λ i. 1 - f i) + number n f + 1 ≡ 2 ^ n
    sum zero h = refl
    sum (suc n) h =
        let e = sum n (λ i l. h i (omega arith)) in
        let b : f n < 2 = h n (le_refl (suc n)) in
        rw (pow-suc 2 n, ← e) (omega arith)

-- the number of bits that are sums
pub number_xor : (n : ℕ) (f g : ℕ → ℕ) → ((i : ℕ) → f i < 2) → ((i : ℕ) → g i < 2) → number n (λ i. differ (f i) (g i)) ≡ bit_xor (number n f) (number n g)
unfolding value
number_xor zero f g hf hg = refl
number_xor (suc n) f g hf hg =
    ap₂ (λ (x y : ℕ). x * 2 + y) (number_xor n f g hf hg) (xor_bits (f n) (g n) (hf n) (hg n))
    ∙ sym (xor_double (number n f) (number n g) (f n) (g n) (hf n) (hg n))
  where
    xor_bits : (x y : ℕ) → x < 2 → y < 2 → differ x y ≡ bit_xor x y
    xor_bits zero zero hx hy = refl
    xor_bits zero (suc zero) hx hy = refl
    xor_bits (suc zero) zero hx hy = refl
    xor_bits (suc zero) (suc zero) hx hy = refl
    xor_bits zero (suc (suc y)) hx hy = absurd (omega arith)
    xor_bits (suc zero) (suc (suc y)) hx hy = absurd (omega arith)
    xor_bits (suc (suc x)) y hx hy = absurd (omega arith)

-- numbers with equal bits are equal
pub bit_ext : (n a b : ℕ) → a < 2 ^ n → b < 2 ^ n → ((i : ℕ) → i < n → bit_of n a i ≡ bit_of n b i) → a ≡ b
bit_ext n a b ha hb h = sym (number_bits n a ha) ∙ value_cong 2 n (bit_of n a) (bit_of n b) h ∙ number_bits n b hb

pub bit_xor_lem : (n a b i : ℕ) → bit_of n (bit_xor a b) i ≡ differ (bit_of n a i) (bit_of n b i)
unfolding bit_of
bit_xor_lem n a b i = let k = n - 1 - i in ap (λ (x : ℕ). x % 2) (xor_shr a b k) ∙ xor_odd (a / 2 ^ k) (b / 2 ^ k)

pub bit_and_lem : (n a b i : ℕ) → bit_of n (bit_and a b) i ≡ bit_and (bit_of n a i) (bit_of n b i)
unfolding bit_of
bit_and_lem n a b i = let k = n - 1 - i in ap (λ (x : ℕ). x % 2) (and_shr a b k) ∙ and_mod (a / 2 ^ k) (b / 2 ^ k) 1

-- the bits of `a << k` and of `a >> k`
pub bit_shl : (n a k q : ℕ) → q + k < n → bit_of n (a * 2 ^ k % 2 ^ n) q ≡ bit_of n a (q + k)
unfolding bit_of
bit_shl n a k q h =
    let m = n - 1 - q in
    let r = n - 1 - (q + k) in
    let e : n ≡ q + 1 + m = omega arith in
    let f : m ≡ k + r = omega arith in
    ap (λ (x : ℕ). x % 2) (ap (λ (i : ℕ). a * 2 ^ k % 2 ^ i / 2 ^ m) e ∙ field (a * 2 ^ k) (q + 1) m) ∙ mod-mod-pow (a * 2 ^ k / 2 ^ m) q 1
    ∙ ap (λ (x : ℕ). x % 2) (ap (λ (i : ℕ). a * 2 ^ k / 2 ^ i) f ∙ sym (shr-shr (a * 2 ^ k) k r) ∙ ap (λ (x : ℕ). x / 2 ^ r) (shl-shr a k))

pub bit_shr : (n a k q : ℕ) → k ≤ q → q < n → bit_of n (a / 2 ^ k) q ≡ bit_of n a (q - k)
unfolding bit_of
bit_shr n a k q l h =
    let e : k + (n - 1 - q) ≡ n - 1 - (q - k) = omega arith in
    ap (λ (x : ℕ). x % 2) (shr-shr a k (n - 1 - q) ∙ ap (λ (i : ℕ). a / 2 ^ i) e)

pub bit_shr_none : (n a k q : ℕ) → a < 2 ^ n → q < k → bit_of n (a / 2 ^ k) q ≡ 0
unfolding bit_of
bit_shr_none n a k q h l =
    let e : n ≤ k + (n - 1 - q) = omega arith in
    ap (λ (x : ℕ). x % 2) (shr-shr a k (n - 1 - q) ∙ div-eq_of_lt (lt_of_lt_of_le h (pow_mono e)))

-- the upper n, and the lower m, of n + m bits
pub bit_top : (n m a q : ℕ) → q < n → bit_of n (a / 2 ^ m) q ≡ bit_of (n + m) a q
unfolding bit_of
bit_top n m a q h =
    let e : m + (n - 1 - q) ≡ n + m - 1 - q = omega arith in
    ap (λ (x : ℕ). x % 2) (shr-shr a m (n - 1 - q) ∙ ap (λ (i : ℕ). a / 2 ^ i) e)

pub bit_low : (n m a q : ℕ) → q < m → bit_of m (a % 2 ^ m) q ≡ bit_of (n + m) a (n + q)
unfolding bit_of
bit_low n m a q h =
    let k = m - 1 - q in
    let e : m ≡ q + 1 + k = omega arith in
    let f : k ≡ n + m - 1 - (n + q) = omega arith in
    ap (λ (x : ℕ). x % 2) (ap (λ (i : ℕ). a % 2 ^ i / 2 ^ k) e ∙ field a (q + 1) k) ∙ mod-mod-pow (a / 2 ^ k) q 1 ∙ ap (λ (i : ℕ). a / 2 ^ i % 2) f

pub differ_mod : (x y : ℕ) → x < 2 → y < 2 → differ x y ≡ (x + y) % 2
differ_mod zero y hx hy = omega arith
differ_mod (suc zero) zero hx hy = refl
differ_mod (suc zero) (suc y) hx hy = omega arith
differ_mod (suc (suc x)) y hx hy = omega arith
