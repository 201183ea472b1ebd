-- The remainder by the generator: it is linear, it has 16 bits, and it is 0 exactly at the multiples of the generator.
-- Assumes nothing.
use mathlib.Core.Path.{◌≡◌, refl, sym, ap, ap₂, ◌∙◌, subst}
use mathlib.Core.Logic.{◌⊎◌, inl, inr}
use Prim.Native.Nat.{ℕ, zero, suc, ◌+◌, ◌*◌, ◌/◌, ◌%◌, ◌^◌, ◌<◌, ◌≤◌}
use native.Mathlib.Nat.{mod-lt, add-zero, zero-add, zero-mul, add-suc, suc-add, pow-suc, div-add-mod', div-div-eq-div-mul, div-eq_of_lt, div-one, mul_comm}
use native.Mathlib.Nat.{add_comm, mul-div_cancel, mul-mod_left}
use native.Mathlib.Numerals.{add-one}
use native.Mathlib.Omega.{arith}
use lib.Arith.{digits_div, digits_mod, lt-one}
use lib.Dec.{lit<, lit≤}
use lib.Pow.{field, mod-mod-pow, pow_pos, pow_mono, pow-lt}
use lib.Bits.{bit_xor, xor_self, xor_zero_r, xor_lt, xor_block, xor_shr, xor_mod, block_half, block_odd}
use Rattle.bits.proofs.Xor.{bit_cases, xor_half, xor_four, xor_double}
use Rattle.bch.specs.definitions.Code.{generator, multiple, CodeWord, step_of, feed_of, remainder}

-- ---- linear

generator_xor : (x y : ℕ) → x < 2 → y < 2 → bit_xor x y * generator ≡ bit_xor (x * generator) (y * generator)
generator_xor zero y hx hy = ap (λ (z : ℕ). bit_xor z (y * generator)) (sym (zero-mul generator))
generator_xor (suc zero) zero hx hy = refl
generator_xor (suc zero) (suc zero) hx hy = refl
generator_xor (suc zero) (suc (suc y)) hx hy = omega arith
generator_xor (suc (suc x)) y hx hy = omega arith

top_lt : {r : ℕ} → r < 65536 → r / 32768 < 2
top_lt {r} h = omega arith

step_xor : (r s b c : ℕ) → r < 65536 → s < 65536 → b < 2 → c < 2 → step_of (bit_xor r s) (bit_xor b c) ≡ bit_xor (step_of r b) (step_of s c)
unfolding step_of
step_xor r s b c hr hs hb hc =
    ap₂ bit_xor (sym (xor_double r s b c hb hc))
    (ap (λ (x : ℕ). x * generator) (xor_shr r s 15) ∙ generator_xor (r / 32768) (s / 32768) (top_lt hr) (top_lt hs))
    ∙ xor_four (r * 2 + b) (s * 2 + c) (r / 32768 * generator) (s / 32768 * generator)

step_lt : (r b : ℕ) → r < 65536 → b < 2 → step_of r b < 65536
unfolding step_of
step_lt r b hr hb = go (bit_cases (r / 32768) (top_lt hr))
  where
    low : ℕ
    low = (r * 2 + b) % 65536

    low_lt : low < 65536
    low_lt = mod-lt (r * 2 + b) (lit< tt)

    go : (r / 32768 ≡ 0) ⊎ (r / 32768 ≡ 1) → bit_xor (r * 2 + b) (r / 32768 * generator) < 65536
    go (inl e) = rw (e, xor_zero_r) (omega arith)
    go (inr e) =
        -- the bit that leaves meets the generator's x^16; 4EAB is the rest of it
        let split : r * 2 + b ≡ 1 * 65536 + low = omega arith in
        rw (e, split, xor_block 16 1 1 low 0x4EAB low_lt (lit< tt), zero-add) (xor_lt 16 low 0x4EAB low_lt (lit< tt))

pub feed_lt : (r k n : ℕ) → r < 65536 → feed_of r k n < 65536
unfolding feed_of
feed_lt r zero n h = h
feed_lt r (suc k) n h = step_lt (feed_of r k (n / 2)) (n % 2) (feed_lt r k (n / 2) h) (mod-lt n (lit< tt))

pub remainder_lt : (k n : ℕ) → remainder k n < 65536
remainder_lt k n = feed_lt 0 k n (lit< tt)

pub feed_xor : (r s k a b : ℕ) → r < 65536 → s < 65536 → feed_of (bit_xor r s) k (bit_xor a b) ≡ bit_xor (feed_of r k a) (feed_of s k b)
unfolding feed_of
feed_xor r s zero a b hr hs = refl
feed_xor r s (suc k) a b hr hs =
    ap₂ step_of (ap (feed_of (bit_xor r s) k) (xor_half a b) ∙ feed_xor r s k (a / 2) (b / 2) hr hs) (xor_mod a b 1)
    ∙ step_xor (feed_of r k (a / 2)) (feed_of s k (b / 2)) (a % 2) (b % 2) (feed_lt r k (a / 2) hr) (feed_lt s k (b / 2) hs)
    (mod-lt a (lit< tt)) (mod-lt b (lit< tt))

pub remainder_xor : (k a b : ℕ) → remainder k (bit_xor a b) ≡ bit_xor (remainder k a) (remainder k b)
remainder_xor k a b = feed_xor 0 0 k a b (lit< tt) (lit< tt)

-- ---- cut in two, and put together

-- k more coefficients
pub feed_split : (r j k n : ℕ) → feed_of r (j + k) n ≡ feed_of (feed_of r j (n / 2 ^ k)) k n
unfolding feed_of
feed_split r j zero n = rw (add-zero j, div-one n)
feed_split r j (suc k) n =
    let d : n / 2 / 2 ^ k ≡ n / 2 ^ suc k = div-div-eq-div-mul n 2 (2 ^ k) ∙ ap (λ (x : ℕ). n / x) (mul_comm 2 (2 ^ k) ∙ sym (pow-suc 2 k)) in
    rw (add-suc j k) (ap (λ (x : ℕ). step_of x (n % 2)) (feed_split r j k (n / 2) ∙ ap (λ (x : ℕ). feed_of (feed_of r j x) k (n / 2)) d))

-- only the k low bits count
pub feed_low : (r k n : ℕ) → feed_of r k (n % 2 ^ k) ≡ feed_of r k n
unfolding feed_of
feed_low r zero n = refl
feed_low r (suc k) n =
    let e : n % 2 ^ suc k / 2 ≡ n / 2 % 2 ^ k = ap (λ (m : ℕ). n % 2 ^ m / 2) (sym (add-one k)) ∙ field n k 1 in
    let f : n % 2 ^ suc k % 2 ≡ n % 2 = ap (λ (m : ℕ). n % 2 ^ m % 2) (sym (add-one k)) ∙ mod-mod-pow n k 1 in
    ap₂ step_of (ap (feed_of r k) e ∙ feed_low r k (n / 2)) f

pub feed_append : (r j k h l : ℕ) → l < 2 ^ k → feed_of (feed_of r j h) k l ≡ feed_of r (j + k) (h * 2 ^ k + l)
unfolding feed_of
feed_append r j zero h l b = let z : l ≡ 0 = lt-one b in let e : h ≡ h * 1 + l = omega arith in rw (add-zero j) (ap (feed_of r j) e)
feed_append r j (suc k) h l b =
    let l' : l / 2 < 2 ^ k = omega arith in
    rw (add-suc j k, block_half h k l, block_odd h k l) (ap (λ (x : ℕ). step_of x (l % 2)) (feed_append r j k h (l / 2) l'))

-- zeros fed after zeros, which may be exchanged
pub feed_zeros : (r j k : ℕ) → feed_of (feed_of r j 0) k 0 ≡ feed_of r (j + k) 0
feed_zeros r j k = let z : 0 * 2 ^ k + 0 ≡ 0 = omega arith in feed_append r j k 0 0 (pow_pos k) ∙ ap (feed_of r (j + k)) z

pub feed_swap : (r j k : ℕ) → feed_of (feed_of r j 0) k 0 ≡ feed_of (feed_of r k 0) j 0
feed_swap r j k = feed_zeros r j k ∙ ap (λ (n : ℕ). feed_of r n 0) (add_comm j k) ∙ sym (feed_zeros r k j)

-- nothing is reduced while what is fed has no more than 16 bits
step_plain : (r b : ℕ) → r < 32768 → step_of r b ≡ r * 2 + b
unfolding step_of
step_plain r b h = rw (div-eq_of_lt h, zero-mul, xor_zero_r)

pub feed_plain : (r k n : ℕ) → (r + 1) * 2 ^ k ≤ 65536 → n < 2 ^ k → feed_of r k n ≡ r * 2 ^ k + n
unfolding feed_of
feed_plain r zero n h l = omega (arith, lt-one l)
feed_plain r (suc k) n h l =
    let h' : (r + 1) * (2 ^ k * 2) ≤ 65536 = rw (pow-suc 2 k) at h in
    let l' : n / 2 < 2 ^ k = omega arith in
    let e : feed_of r k (n / 2) ≡ r * 2 ^ k + n / 2 = feed_plain r k (n / 2) (omega arith) l' in
    let f : r * 2 ^ suc k ≡ r * (2 ^ k * 2) = ap (λ (x : ℕ). r * x) (pow-suc 2 k) in
    ap (λ (x : ℕ). step_of x (n % 2)) e ∙ step_plain (r * 2 ^ k + n / 2) (n % 2) (omega arith) ∙ omega arith

-- a power of x below x^16
pub feed_one : (i : ℕ) → i < 16 → feed_of 1 i 0 ≡ 2 ^ i
feed_one i h =
    let small : 2 ^ i * 2 ≤ 2 ^ 16 = rw (← pow-suc 2 i) (pow_mono h) in
    let one : 1 * 2 ^ i + 0 ≡ 2 ^ i = omega arith in
    feed_plain 1 i 0 (omega arith) (pow_pos i) ∙ one

-- 16 bits are their own remainder
pub remainder_own : (p : ℕ) → p < 65536 → remainder 16 p ≡ p
remainder_own p h = feed_plain 0 16 p (lit≤ tt) h ∙ zero-add p

pub remainder_low : (n : ℕ) → remainder 16 n ≡ n % 65536
remainder_low n = sym (feed_low 0 16 n) ∙ remainder_own (n % 65536) (mod-lt n (lit< tt))

-- a byte times x^16
pub remainder_byte : (b : ℕ) → b < 256 → remainder 24 (b * 2 ^ 16) ≡ feed_of b 16 0
remainder_byte b h =
    let z : b * 2 ^ 16 ≡ b * 2 ^ 16 + 0 = omega arith in
    ap (remainder 24) z ∙ sym (feed_append 0 8 16 b 0 (lit< tt)) ∙ ap (λ (x : ℕ). feed_of x 16 0) (feed_plain 0 8 b (lit≤ tt) h ∙ zero-add b)

pub remainder_zero : (k : ℕ) → remainder k 0 ≡ 0
unfolding feed_of step_of
remainder_zero zero = refl
remainder_zero (suc k) = rw (remainder_zero k)

-- leading zeros are nothing
pub remainder_lead : (j k n : ℕ) → n < 2 ^ k → remainder (k + j) n ≡ remainder k n
unfolding feed_of
remainder_lead j zero n h = rw (lt-one h, zero-add) (remainder_zero j)
remainder_lead j (suc k) n h = rw suc-add (ap (λ (r : ℕ). step_of r (n % 2)) (remainder_lead j k (n / 2) (omega arith)))

-- what the d bits above the k low ones leave is added at their place
pub remainder_cut : (d k n : ℕ) → remainder (d + k) n ≡ bit_xor (remainder k n) (feed_of (remainder d (n / 2 ^ k)) k 0)
remainder_cut d k n =
    let r : ℕ = remainder d (n / 2 ^ k) in
    feed_split 0 d k n ∙ ap (feed_of r k) (sym (xor_zero_r n)) ∙ feed_xor 0 r k n 0 (lit< tt) (remainder_lt d (n / 2 ^ k))

-- and up to 16 bits leave themselves
pub remainder_above : (d k n : ℕ) → d ≤ 16 → remainder (d + k) n ≡ bit_xor (remainder k n) (feed_of (n / 2 ^ k % 2 ^ d) k 0)
remainder_above d k n h =
    let b : ℕ = n / 2 ^ k % 2 ^ d in
    let room : 2 ^ d ≤ 65536 = pow_mono h in
    let fits : (0 + 1) * 2 ^ d ≤ 65536 = omega arith in
    let plain : remainder d b ≡ b = feed_plain 0 d b fits (mod-lt (n / 2 ^ k) (pow_pos d)) ∙ rw (zero-mul) (zero-add b) in
    remainder_cut d k n ∙ ap (λ (x : ℕ). bit_xor (remainder k n) (feed_of x k 0)) (sym (feed_low 0 d (n / 2 ^ k)) ∙ plain)

remainder_double : (k n : ℕ) → remainder (suc k) (n * 2) ≡ step_of (remainder k n) 0
unfolding feed_of
remainder_double k n = rw (mul-div_cancel n (lit< {m = 0} {n = 2} tt), mul-mod_left)

-- the remainder of a power of x, from the one below it
pub remainder_power : (k i : ℕ) → i < k → remainder (suc k) (2 ^ suc i) ≡ step_of (remainder (suc k) (2 ^ i)) 0
remainder_power k i h =
    ap (remainder (suc k)) (pow-suc 2 i) ∙ remainder_double k (2 ^ i)
    ∙ ap (λ (x : ℕ). step_of x 0) (sym (remainder_lead 1 k (2 ^ i) (pow-lt h)) ∙ ap (λ (m : ℕ). remainder m (2 ^ i)) (add-one k))

-- ---- the multiples of the generator

remainder_generator : (k b : ℕ) → b < 2 → remainder (suc k + 16) (b * generator) ≡ 0
unfolding feed_of step_of
remainder_generator k zero h = rw (zero-mul) (remainder_zero (suc k + 16))
remainder_generator k (suc zero) h =
    let e : suc k + 16 ≡ 17 + k = omega arith in
    ap (λ (m : ℕ). remainder m generator) e ∙ remainder_lead k 17 generator (lit< tt)
remainder_generator k (suc (suc b)) h = omega arith

pub remainder_multiple : (k q : ℕ) → remainder (k + 16) (multiple k q) ≡ 0
unfolding multiple step_of
remainder_multiple zero q = remainder_zero 16
remainder_multiple (suc k) q =
    let e : remainder (suc k + 16) (multiple k (q / 2) * 2) ≡ 0 = rw (suc-add k 16, remainder_double, remainder_multiple k (q / 2)) in
    remainder_xor (suc k + 16) (multiple k (q / 2) * 2) (q % 2 * generator)
    ∙ ap₂ bit_xor e (remainder_generator k (q % 2) (mod-lt q (lit< tt)))

-- the quotient, of k bits: the bits that leave at the top
unfoldable quotient_of : ℕ → ℕ → ℕ
quotient_of zero n = 0
quotient_of (suc k) n = quotient_of k (n / 2) * 2 + remainder (k + 16) (n / 2) / 32768

divides : (k n : ℕ) → n < 2 ^ (k + 16) → n ≡ bit_xor (multiple k (quotient_of k n)) (remainder (k + 16) n)
unfolding multiple quotient_of feed_of step_of
divides zero n h = sym (remainder_own n h)
divides (suc k) n h =
    let h' : n < 2 ^ suc (k + 16) = rw (suc-add k 16) at h in
    rw (suc-add k 16, digits_div q t_lt, digits_mod q t_lt)
    (sym (xor_four (multiple k q * 2) (t * generator) (r * 2 + n % 2) (t * generator)
    ∙ rw (xor_self (t * generator), xor_zero_r)
    (ap (λ (x : ℕ). bit_xor x (r * 2 + n % 2)) (sym (add-zero (multiple k q * 2)))
    ∙ xor_double (multiple k q) r 0 (n % 2) (lit< tt) (mod-lt n (lit< tt))
    ∙ ap (λ (x : ℕ). x * 2 + n % 2) (sym (divides k (n / 2) (omega arith)))
    ∙ div-add-mod' n 2)))
  where
    q : ℕ
    q = quotient_of k (n / 2)

    r : ℕ
    r = remainder (k + 16) (n / 2)

    t : ℕ
    t = r / 32768

    t_lt : t < 2
    t_lt = top_lt (remainder_lt (k + 16) (n / 2))

-- the code words are the words of 126 bits that leave no remainder
pub code_remainder : {c : ℕ} → CodeWord c → remainder 126 c ≡ 0
code_remainder w = ap (remainder 126) w.product ∙ remainder_multiple 110 w.quotient

pub remainder_code : {c : ℕ} → c < 2 ^ 126 → remainder 126 c ≡ 0 → CodeWord c
remainder_code {c} h e =
    record {
      quotient = quotient_of 110 c;
      product = divides 110 c h ∙ ap (bit_xor (multiple 110 (quotient_of 110 c))) e ∙ xor_zero_r (multiple 110 (quotient_of 110 c));
    }

multiple_lt : (k q : ℕ) → multiple k q < 2 ^ (k + 16)
unfolding multiple
multiple_lt zero q = lit< tt
multiple_lt (suc k) q =
    rw (suc-add k 16)
    (xor_lt (suc (k + 16)) (multiple k (q / 2) * 2) (q % 2 * generator) (let h = multiple_lt k (q / 2) in omega arith)
    (small (q % 2) (mod-lt q (lit< tt))))
  where
    room : 2 ^ 17 ≤ 2 ^ suc (k + 16)
    room = let h : 17 ≤ suc (k + 16) = omega arith in pow_mono h

    small : (b : ℕ) → b < 2 → b * generator < 2 ^ suc (k + 16)
    small b h = omega (arith, room)

pub code_lt : {c : ℕ} → CodeWord c → c < 2 ^ 126
code_lt w = subst (λ (x : ℕ). x < 2 ^ 126) (sym w.product) (multiple_lt 110 w.quotient)

-- what lies between two words with one remainder leaves none, and a code word adds none
pub remainder_code_xor : {c : ℕ} (e : ℕ) → CodeWord c → remainder 126 (bit_xor c e) ≡ remainder 126 e
remainder_code_xor {c} e w = remainder_xor 126 c e ∙ ap (λ (x : ℕ). bit_xor x (remainder 126 e)) (code_remainder w)
