-- How many of the k low bits of a number are set: its weight. What a sum's weight is, which numbers have a weight of at most two, and that weights count
-- the places where two numbers differ.
-- Assumes nothing.
use mathlib.Core.Path.{◌≡◌, refl, sym, ap, ap₂, ◌∙◌}
use mathlib.Core.Bool.{not, cond}
use mathlib.Core.Logic.{◌⊎◌, inl, inr}
use Prim.Native.Nat.{ℕ, zero, suc, ◌+◌, ◌-◌, ◌*◌, ◌/◌, ◌%◌, ◌^◌, ◌<◌, ◌≤◌}
use native.Mathlib.Nat.{mod-lt, one-mul, pow-suc, div-add-mod', zero-add, suc-add, mul_comm, mul-div_cancel, mul-mod_left, div-one, div-div-eq-div-mul}
use native.Mathlib.Omega.{arith}
use lib.Arith.{lt-one, digits_div, digits_mod}
use lib.Dec.{eqb, lit<}
use lib.Pow.{pow-lt}
use lib.Bits.{bit_xor, differ, xor_shifted, xor_comm}
use Rattle.bits.specs.definitions.Bits.{bit_of, count}
use Rattle.bits.proofs.Xor.{bit_cases, xor_half, xor_odd, xor_double}
use Rattle.bits.proofs.Count.{count_cong}

unfoldable pub weight : ℕ → ℕ → ℕ
weight zero n = 0
weight (suc k) n = n % 2 + weight k (n / 2)

-- ---- sums

last_cases : (n : ℕ) → (n % 2 ≡ 0) ⊎ (n % 2 ≡ 1)
last_cases n = bit_cases (n % 2) (mod-lt n (lit< tt))

-- a sum's weight is the weights', less twice the bits that both have
differ_even : (x y : ℕ) → x < 2 → y < 2 → (c : ℕ) × (x + y ≡ differ x y + 2 * c)
differ_even zero y hx hy = (0, omega arith)
differ_even (suc zero) zero hx hy = (0, refl)
differ_even (suc zero) (suc zero) hx hy = (1, refl)
differ_even (suc zero) (suc (suc y)) hx hy = absurd (omega arith)
differ_even (suc (suc x)) y hx hy = absurd (omega arith)

pub weight_xor : (k a b : ℕ) → (c : ℕ) × (weight k a + weight k b ≡ weight k (bit_xor a b) + 2 * c)
unfolding weight
weight_xor zero a b = (0, refl)
weight_xor (suc k) a b =
    let d = differ_even (a % 2) (b % 2) (mod-lt a (lit< tt)) (mod-lt b (lit< tt)) in
    let r = weight_xor k (a / 2) (b / 2) in
    (d.0 + r.0, rw (xor_odd a b, xor_half a b) (omega (arith, d.1, r.1)))

-- so it is at most their sum, and odd where one of them is
pub weight_sum : (k a b : ℕ) → weight k (bit_xor a b) ≤ weight k a + weight k b
weight_sum k a b = let r = weight_xor k a b in omega (arith, r.1)

pub weight_odd : (k a b : ℕ) → weight k (bit_xor a b) % 2 ≡ (weight k a + weight k b) % 2
weight_odd k a b = let r = weight_xor k a b in omega (arith, r.1)

-- ---- small weights

pub weight_zero : (k : ℕ) → weight k 0 ≡ 0
unfolding weight
weight_zero zero = refl
weight_zero (suc k) = omega (arith, weight_zero k)

-- leading zeros are nothing
pub weight_lead : (j k n : ℕ) → n < 2 ^ k → weight (k + j) n ≡ weight k n
unfolding weight
weight_lead j zero n h = rw (lt-one h, zero-add) (weight_zero j)
weight_lead j (suc k) n h = rw suc-add (ap (λ (w : ℕ). n % 2 + w) (weight_lead j k (n / 2) (omega arith)))

pub weight_power : (k i : ℕ) → i < k → weight k (2 ^ i) ≡ 1
unfolding weight
weight_power zero i h = absurd (omega arith)
weight_power (suc k) zero h = omega (arith, weight_zero k)
weight_power (suc k) (suc i) h =
    rw (pow-suc, mul-div_cancel (2 ^ i) (lit< {m = 0} {n = 2} tt), mul-mod_left) (omega (arith, weight_power k i (omega arith)))

pub powers_xor : {i j : ℕ} → i < j → bit_xor (2 ^ i) (2 ^ j) ≡ 2 ^ i + 2 ^ j
powers_xor {i} {j} h =
    xor_comm (2 ^ i) (2 ^ j) ∙ ap (λ (x : ℕ). bit_xor x (2 ^ i)) (sym (one-mul (2 ^ j))) ∙ xor_shifted 1 j (2 ^ i) (pow-lt h) ∙ omega arith

pub weight_powers : (k i j : ℕ) → i < j → j < k → weight k (bit_xor (2 ^ i) (2 ^ j)) ≡ 2
unfolding weight
weight_powers k i j l h = rw (powers_xor l) (go k i j l h)
  where
    go : (k i j : ℕ) → i < j → j < k → weight k (2 ^ i + 2 ^ j) ≡ 2
    go zero i j l h = absurd (omega arith)
    go (suc k) i zero l h = absurd (omega arith)
    go (suc k) zero (suc j) l h =
        let e : (2 ^ 0 + 2 ^ suc j) / 2 ≡ 2 ^ j = omega arith in
        let f : (2 ^ 0 + 2 ^ suc j) % 2 ≡ 1 = omega arith in
        rw (e, f) (omega (arith, weight_power k j (omega arith)))
    go (suc k) (suc i) (suc j) l h =
        let e : (2 ^ suc i + 2 ^ suc j) / 2 ≡ 2 ^ i + 2 ^ j = omega arith in
        let f : (2 ^ suc i + 2 ^ suc j) % 2 ≡ 0 = omega arith in
        rw (e, f) (omega (arith, go k i j (omega arith) (omega arith)))

weight_0 : (k n : ℕ) → n < 2 ^ k → weight k n ≡ 0 → n ≡ 0
unfolding weight
weight_0 zero n h e = lt-one h
weight_0 (suc k) n h e = let z : n / 2 ≡ 0 = weight_0 k (n / 2) (omega arith) (omega arith) in omega arith

-- a number of k bits with one bit set, or with two
pub record Single (k n : ℕ) : Type 0 where
  pub at : ℕ
  pub below : at < k
  pub is : n ≡ 2 ^ at

pub record Double (k n : ℕ) : Type 0 where
  pub lo : ℕ
  pub hi : ℕ
  pub order : lo < hi
  pub below : hi < k
  pub is : n ≡ 2 ^ lo + 2 ^ hi

weight_1 : (k n : ℕ) → n < 2 ^ k → weight k n ≡ 1 → Single k n
unfolding weight
weight_1 zero n h e = absurd (omega arith)
weight_1 (suc k) n h e = go (weight_1 k (n / 2) (omega arith)) (last_cases n)
  where
    go : (weight k (n / 2) ≡ 1 → Single k (n / 2)) → (n % 2 ≡ 0) ⊎ (n % 2 ≡ 1) → Single (suc k) n
    go ih (inl z) = let o : Single k (n / 2) = ih (omega arith) in record { at = suc o.at; below = omega arith; is = omega (arith, o.is) }
    go ih (inr z) =
        let y : n / 2 ≡ 0 = weight_0 k (n / 2) (omega arith) (omega arith) in
        record { at = 0; below = omega arith; is = omega arith }

weight_2 : (k n : ℕ) → n < 2 ^ k → weight k n ≡ 2 → Double k n
unfolding weight
weight_2 zero n h e = absurd (omega arith)
weight_2 (suc k) n h e = go (weight_2 k (n / 2) (omega arith)) (last_cases n)
  where
    go : (weight k (n / 2) ≡ 2 → Double k (n / 2)) → (n % 2 ≡ 0) ⊎ (n % 2 ≡ 1) → Double (suc k) n
    go ih (inl z) =
        let o : Double k (n / 2) = ih (omega arith) in
        record { lo = suc o.lo; hi = suc o.hi; order = omega arith; below = omega arith; is = omega (arith, o.is) }
    go ih (inr z) =
        let o : Single k (n / 2) = weight_1 k (n / 2) (omega arith) (omega arith) in
        record { lo = 0; hi = suc o.at; order = omega arith; below = omega arith; is = omega (arith, o.is) }

pub data Light (k n : ℕ) : Type 0 where
  none : n ≡ 0 → Light k n
  single : Single k n → Light k n
  double : Double k n → Light k n

pub light : (k n : ℕ) → n < 2 ^ k → weight k n ≤ 2 → Light k n
light k n h w = go (weight k n) refl w
  where
    go : (m : ℕ) → weight k n ≡ m → m ≤ 2 → Light k n
    go zero e l = none (weight_0 k n h e)
    go (suc zero) e l = single (weight_1 k n h e)
    go (suc (suc zero)) e l = double (weight_2 k n h e)
    go (suc (suc (suc m))) e l = absurd (omega arith)

-- a number of weight at most a + b is the sum of two, of weights at most a and b
pub record Parts (k n a b : ℕ) : Type 0 where
  pub one : ℕ
  pub other : ℕ
  pub one_lt : one < 2 ^ k
  pub other_lt : other < 2 ^ k
  pub sum : n ≡ bit_xor one other
  pub one_light : weight k one ≤ a
  pub other_light : weight k other ≤ b

-- one bit more below a part
twice_lt : (k x b : ℕ) → x < 2 ^ k → b < 2 → x * 2 + b < 2 ^ suc k
twice_lt k x b h l = omega arith

pub weight_twice : (k x b : ℕ) → b < 2 → weight (suc k) (x * 2 + b) ≡ b + weight k x
unfolding weight
weight_twice k x b h = rw (digits_div x h, digits_mod x h)

below : (k n a b x y : ℕ) {c d : ℕ} → x < 2 → y < 2 → bit_xor x y ≡ n % 2 → x + c ≡ a → y + d ≡ b → Parts k (n / 2) c d → Parts (suc k) n a b
below k n a b x y hx hy e p q P =
    record {
      one = P.one * 2 + x;
      other = P.other * 2 + y;
      one_lt = twice_lt k P.one x P.one_lt hx;
      other_lt = twice_lt k P.other y P.other_lt hy;
      sum =
          sym (div-add-mod' n 2) ∙ ap₂ (λ (u v : ℕ). u * 2 + v) P.sum (sym e)
          ∙ sym (xor_double P.one P.other x y hx hy);
      one_light = omega (arith, weight_twice k P.one x hx, P.one_light);
      other_light = omega (arith, weight_twice k P.other y hy, P.other_light);
    }

pub parts : (k n a b : ℕ) → n < 2 ^ k → weight k n ≤ a + b → Parts k n a b
unfolding weight
parts zero n a b h w =
    record {
      one = 0;
      other = 0;
      one_lt = lit< tt;
      other_lt = lit< tt;
      sum = lt-one h;
      one_light = omega arith;
      other_light = omega arith;
    }
parts (suc k) n a b h w = go a b w (λ a b. parts k (n / 2) a b (omega arith)) (last_cases n)
  where
    go : (a b : ℕ) → n % 2 + weight k (n / 2) ≤ a + b → ((a b : ℕ) → weight k (n / 2) ≤ a + b → Parts k (n / 2) a b)
        → (n % 2 ≡ 0) ⊎ (n % 2 ≡ 1) → Parts (suc k) n a b
    go a b w ih (inl z) = below k n a b 0 0 (lit< tt) (lit< tt) (sym z) (omega arith) (omega arith) (ih a b (omega arith))
    go (suc a) b w ih (inr z) = below k n (suc a) b 1 0 (lit< tt) (lit< tt) (sym z) (omega arith) (omega arith) (ih a b (omega arith))
    go zero (suc b) w ih (inr z) = below k n 0 (suc b) 0 1 (lit< tt) (lit< tt) (sym z) (omega arith) (omega arith) (ih 0 b (omega arith))
    go zero zero w ih (inr z) = absurd (omega arith)

-- ---- counting places

-- the bits of a number from the top, less the last
bit_shift : (k n i : ℕ) → i < k → bit_of (suc k) n i ≡ bit_of k (n / 2) i
unfolding bit_of
bit_shift k n i h =
    let e : suc k - 1 - i ≡ suc (k - 1 - i) = omega arith in
    ap (λ (m : ℕ). n / 2 ^ m % 2) e
    ∙ ap (λ (m : ℕ). m % 2) (ap (λ (m : ℕ). n / m) (pow-suc 2 (k - 1 - i) ∙ mul_comm (2 ^ (k - 1 - i)) 2) ∙ sym (div-div-eq-div-mul n 2 (2 ^ (k - 1 - i))))

bit_last : (k n : ℕ) → bit_of (suc k) n k ≡ n % 2
unfolding bit_of
bit_last k n =
    let e : suc k - 1 - k ≡ 0 = omega arith in
    ap (λ (m : ℕ). n / 2 ^ m % 2) e ∙ ap (λ (m : ℕ). m % 2) (div-one n)

bits_differ : (x y : ℕ) → x < 2 → y < 2 → cond (not (eqb x y)) 1 0 ≡ differ x y
bits_differ zero zero hx hy = refl
bits_differ zero (suc zero) hx hy = refl
bits_differ (suc zero) zero hx hy = refl
bits_differ (suc zero) (suc zero) hx hy = refl
bits_differ zero (suc (suc y)) hx hy = absurd (omega arith)
bits_differ (suc zero) (suc (suc y)) hx hy = absurd (omega arith)
bits_differ (suc (suc x)) y hx hy = absurd (omega arith)

-- in how many of their k bits two numbers differ
pub weight_differs : (k a b : ℕ) → count (λ i. not (eqb (bit_of k a i) (bit_of k b i))) k ≡ weight k (bit_xor a b)
unfolding weight count
weight_differs zero a b = refl
weight_differs (suc k) a b =
    ap₂ ◌+◌
    (ap₂ (λ (x y : ℕ). cond (not (eqb x y)) 1 0) (bit_last k a) (bit_last k b)
    ∙ bits_differ (a % 2) (b % 2) (mod-lt a (lit< tt)) (mod-lt b (lit< tt)) ∙ sym (xor_odd a b))
    (count_cong k (λ i. not (eqb (bit_of (suc k) a i) (bit_of (suc k) b i))) (λ i. not (eqb (bit_of k (a / 2) i) (bit_of k (b / 2) i)))
    (λ i h. ap₂ (λ (x y : ℕ). not (eqb x y)) (bit_shift k a i h) (bit_shift k b i h))
    ∙ weight_differs k (a / 2) (b / 2) ∙ ap (weight k) (sym (xor_half a b)))
