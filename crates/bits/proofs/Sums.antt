-- Tables of sums, a sum being an exclusive or: 2^k entries, entry b the sum of those of k terms that b's bits pick. What is looked up in one is linear.
-- Assumes nothing.
use mathlib.Core.Path.{◌≡◌, refl, sym, ap, ap₂, ◌∙◌}
use mathlib.Core.Logic.{◌⊎◌, inl, inr}
use mathlib.Core.List.{List, [], ◌∷◌}
use Prim.Native.Nat.{ℕ, zero, suc, ◌+◌, ◌-◌, ◌*◌, ◌/◌, ◌%◌, ◌^◌, ◌<◌}
use native.Mathlib.Nat.{mod-lt, add-zero, zero-mul, one-mul, pow-suc, not-suc-le-zero}
use native.Mathlib.Omega.{arith}
use lib.Dec.{lit<}
use lib.ListN.{length, get_or}
use lib.Pow.{shr-shr}
use lib.Bits.{bit_xor, differ, xor_zero_l, xor_zero_r, xor_self, xor_shifted}
use Rattle.bits.proofs.Xor.{bit_cases, xor_half, xor_odd, xor_four, xor_double}

-- each entry, and behind it the entry with e added
abbrev twice : ℕ → List ℕ → List ℕ
twice e [] = []
twice e (x ∷ xs) = x ∷ bit_xor x e ∷ twice e xs

-- the table of the sums of f 0, .., f (k - 1): bit i of the place picks f i
unfoldable pub sums : ℕ → (ℕ → ℕ) → List ℕ
sums zero f = 0 ∷ []
sums (suc k) f = twice (f 0) (sums k (λ i. f (suc i)))

-- the sum at place b
pub sum_at : ℕ → (ℕ → ℕ) → ℕ → ℕ
sum_at zero f b = 0
sum_at (suc k) f b = bit_xor (sum_at k (λ i. f (suc i)) (b / 2)) (b % 2 * f 0)

twice_long : (e : ℕ) (l : List ℕ) → length (twice e l) ≡ 2 * length l
twice_long e [] = refl
twice_long e (x ∷ xs) = let h = twice_long e xs in omega arith

pub sums_long : (k : ℕ) (f : ℕ → ℕ) → length (sums k f) ≡ 2 ^ k
unfolding sums
sums_long zero f = refl
sums_long (suc k) f = twice_long (f 0) (sums k (λ i. f (suc i))) ∙ rw (sums_long k (λ i. f (suc i)), pow-suc) (omega arith)

twice_at : (e : ℕ) (l : List ℕ) (b : ℕ) → b / 2 < length l → get_or (twice e l) b 0 ≡ bit_xor (get_or l (b / 2) 0) (b % 2 * e)
twice_at e [] b h = absurd (not-suc-le-zero h)
twice_at e (x ∷ xs) zero h = rw zero-mul (sym (xor_zero_r x))
twice_at e (x ∷ xs) (suc zero) h = rw one-mul refl
twice_at e (x ∷ xs) (suc (suc b)) h =
    let d : suc (suc b) / 2 ≡ suc (b / 2) = omega arith in
    let r : suc (suc b) % 2 ≡ b % 2 = omega arith in
    rw (d, r) (twice_at e xs b (omega arith))

pub sums_at : (k : ℕ) (f : ℕ → ℕ) (b : ℕ) → b < 2 ^ k → get_or (sums k f) b 0 ≡ sum_at k f b
unfolding sums sum_at
sums_at zero f zero h = refl
sums_at zero f (suc b) h = absurd (omega arith)
sums_at (suc k) f b h =
    let p : b < 2 ^ k * 2 = rw pow-suc at h in
    let half : b / 2 < 2 ^ k = omega arith in
    twice_at (f 0) (sums k (λ i. f (suc i))) b (rw sums_long half)
    ∙ ap (λ (x : ℕ). bit_xor x (b % 2 * f 0)) (sums_at k (λ i. f (suc i)) (b / 2) half)

differ_mul : (x y e : ℕ) → x < 2 → y < 2 → differ x y * e ≡ bit_xor (x * e) (y * e)
differ_mul zero y e hx hy = rw zero-mul (sym (xor_zero_l (y * e)))
differ_mul (suc zero) zero e hx hy = rw (zero-mul e) (sym (xor_zero_r (1 * e)))
differ_mul (suc zero) (suc zero) e hx hy = zero-mul e ∙ sym (xor_self (1 * e))
differ_mul (suc zero) (suc (suc y)) e hx hy = absurd (omega arith)
differ_mul (suc (suc x)) y e hx hy = absurd (omega arith)

-- it is linear
pub sum_xor : (k : ℕ) (f : ℕ → ℕ) (a b : ℕ) → sum_at k f (bit_xor a b) ≡ bit_xor (sum_at k f a) (sum_at k f b)
unfolding sum_at
sum_xor zero f a b = refl
sum_xor (suc k) f a b =
    let g : ℕ → ℕ = λ i. f (suc i) in
    ap₂ bit_xor (ap (sum_at k g) (xor_half a b) ∙ sum_xor k g (a / 2) (b / 2))
    (ap (λ (x : ℕ). x * f 0) (xor_odd a b) ∙ differ_mul (a % 2) (b % 2) (f 0) (mod-lt a (lit< tt)) (mod-lt b (lit< tt)))
    ∙ xor_four (sum_at k g (a / 2)) (sum_at k g (b / 2)) (a % 2 * f 0) (b % 2 * f 0)

-- and linear in the terms
pub sum_both : (k : ℕ) (f g : ℕ → ℕ) (b : ℕ) → sum_at k (λ i. bit_xor (f i) (g i)) b ≡ bit_xor (sum_at k f b) (sum_at k g b)
unfolding sum_at
sum_both zero f g b = refl
sum_both (suc k) f g b =
    let f' : ℕ → ℕ = λ i. f (suc i) in
    let g' : ℕ → ℕ = λ i. g (suc i) in
    ap₂ bit_xor (sum_both k f' g' (b / 2)) (picked (b % 2) (bit_cases (b % 2) (mod-lt b (lit< tt))))
    ∙ xor_four (sum_at k f' (b / 2)) (sum_at k g' (b / 2)) (b % 2 * f 0) (b % 2 * g 0)
  where
    picked : (x : ℕ) → (x ≡ 0) ⊎ (x ≡ 1) → x * bit_xor (f 0) (g 0) ≡ bit_xor (x * f 0) (x * g 0)
    picked x (inl q) = rw (q, zero-mul (f 0), zero-mul (g 0)) (zero-mul (bit_xor (f 0) (g 0)))
    picked x (inr q) = rw (q, one-mul (f 0), one-mul (g 0)) (one-mul (bit_xor (f 0) (g 0)))

-- it depends on the first k terms alone
pub sum_cong : (k : ℕ) (f g : ℕ → ℕ) (b : ℕ) → ((i : ℕ) → i < k → f i ≡ g i) → sum_at k f b ≡ sum_at k g b
unfolding sum_at
sum_cong zero f g b h = refl
sum_cong (suc k) f g b h =
    ap₂ (λ (x y : ℕ). bit_xor x (b % 2 * y)) (sum_cong k (λ i. f (suc i)) (λ i. g (suc i)) (b / 2) (λ i l. h (suc i) (omega arith))) (h 0 (omega arith))

-- no terms, none of them, and one of them
pub sum_empty : (f : ℕ → ℕ) (b : ℕ) → sum_at 0 f b ≡ 0
unfolding sum_at
sum_empty f b = refl

pub sum_none : (k : ℕ) (f : ℕ → ℕ) → sum_at k f 0 ≡ 0
unfolding sum_at
sum_none zero f = refl
sum_none (suc k) f = ap₂ bit_xor (sum_none k (λ i. f (suc i))) (zero-mul (f 0))

pub sum_one : (k : ℕ) (f : ℕ → ℕ) (i : ℕ) → i < k → sum_at k f (2 ^ i) ≡ f i
unfolding sum_at
sum_one zero f i h = absurd (omega arith)
sum_one (suc k) f zero h = ap₂ bit_xor (sum_none k (λ i. f (suc i))) (one-mul (f 0))
sum_one (suc k) f (suc i) h =
    let e : 2 ^ suc i / 2 ≡ 2 ^ i = omega (arith, pow-suc 2 i) in
    let o : 2 ^ suc i % 2 ≡ 0 = omega (arith, pow-suc 2 i) in
    ap₂ bit_xor (ap (sum_at k (λ j. f (suc j))) e ∙ sum_one k (λ j. f (suc j)) i (omega arith)) (ap (λ (x : ℕ). x * f 0) o ∙ zero-mul (f 0))
    ∙ xor_zero_r (f (suc i))

-- what is left of a sum from term i on: term i, and what is left behind it
pub sum_rest : (k : ℕ) (f : ℕ → ℕ) (b i : ℕ) → i < k
    → sum_at (k - i) (λ j. f (i + j)) (b / 2 ^ i) ≡ bit_xor (sum_at (k - (i + 1)) (λ j. f (i + 1 + j)) (b / 2 ^ (i + 1))) (b / 2 ^ i % 2 * f i)
unfolding sum_at
sum_rest k f b i h =
    let m : k - i ≡ suc (k - (i + 1)) = omega arith in
    ap (λ (n : ℕ). sum_at n (λ j. f (i + j)) (b / 2 ^ i)) m
    ∙ ap₂ (λ (x y : ℕ). bit_xor x (b / 2 ^ i % 2 * y))
    (sum_cong (k - (i + 1)) (λ j. f (i + suc j)) (λ j. f (i + 1 + j)) (b / 2 ^ i / 2) (λ j _. let e : i + suc j ≡ i + 1 + j = omega arith in ap f e)
    ∙ ap (sum_at (k - (i + 1)) (λ j. f (i + 1 + j))) (shr-shr b i 1)) (ap f (add-zero i))

-- a linear function is the sums of what it is of the powers of two
pub sums_linear : (k : ℕ) (f F : ℕ → ℕ) → F 0 ≡ 0 → ((x y : ℕ) → x < 2 ^ k → y < 2 ^ k → F (bit_xor x y) ≡ bit_xor (F x) (F y))
    → ((i : ℕ) → i < k → f i ≡ F (2 ^ i)) → (b : ℕ) → b < 2 ^ k → sum_at k f b ≡ F b
unfolding sum_at
sums_linear zero f F z L e zero h = sym z
sums_linear zero f F z L e (suc b) h = absurd (omega arith)
sums_linear (suc k) f F z L e b h =
    ap₂ bit_xor (sums_linear k (λ i. f (suc i)) (λ x. F (x * 2)) z twofold (λ i l. e (suc i) (omega arith) ∙ ap F (pow-suc 2 i)) (b / 2) half)
    (last (b % 2) (bit_cases (b % 2) (mod-lt b (lit< tt))))
    ∙ sym (L (b / 2 * 2) (b % 2) (omega arith) (omega arith)) ∙ ap F (xor_shifted (b / 2) 1 (b % 2) (mod-lt b (lit< tt)) ∙ whole)
  where
    cut : b < 2 ^ k * 2
    cut = rw pow-suc at h

    half : b / 2 < 2 ^ k
    half = omega (arith, cut)

    whole : b / 2 * 2 + b % 2 ≡ b
    whole = omega arith

    twofold : (x y : ℕ) → x < 2 ^ k → y < 2 ^ k → F (bit_xor x y * 2) ≡ bit_xor (F (x * 2)) (F (y * 2))
    twofold x y hx hy =
        ap F (sym (simp add-zero at (xor_double x y 0 0 (lit< tt) (lit< tt)))) ∙ L (x * 2) (y * 2) (omega arith) (omega arith)

    last : (x : ℕ) → (x ≡ 0) ⊎ (x ≡ 1) → x * f 0 ≡ F x
    last x (inl q) = rw q (zero-mul (f 0) ∙ sym z)
    last x (inr q) = rw q (one-mul (f 0) ∙ e 0 (omega arith))

-- so two linear functions that agree there agree
pub linear_agree : (k : ℕ) (F G : ℕ → ℕ) → F 0 ≡ 0 → G 0 ≡ 0 → ((x y : ℕ) → F (bit_xor x y) ≡ bit_xor (F x) (F y))
    → ((x y : ℕ) → G (bit_xor x y) ≡ bit_xor (G x) (G y)) → ((i : ℕ) → i < k → F (2 ^ i) ≡ G (2 ^ i)) → (b : ℕ) → b < 2 ^ k → F b ≡ G b
linear_agree k F G z z' L L' e b h =
    sym (sums_linear k (λ i. F (2 ^ i)) F z (λ x y _ _. L x y) (λ i l. refl) b h) ∙ sums_linear k (λ i. F (2 ^ i)) G z' (λ x y _ _. L' x y) e b h
