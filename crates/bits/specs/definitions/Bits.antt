-- Lists by their elements, numbers by their digits, bytes by their bits: the earliest bit stands in the top bit of a byte (01, one frame in
-- numbers). And counting, the smallest number and the first of a list that pass a test.
-- Assumes nothing.
use Rattle.std.specs.Prelude.{Bool, cond, List, [], ◌∷◌, ℕ, zero, suc, ◌+◌, ◌*◌, ◌-◌, ◌/◌, ◌%◌, ◌^◌, ◌<◌, ltb, get_or, length}

-- the list f 0, f 1, .., f (n - 1)
unfoldable pub tabulate : {A : Type 0} → ℕ → (ℕ → A) → List A
tabulate zero f = []
tabulate (suc n) f = f 0 ∷ tabulate n (λ i. f (suc i))

-- the number whose n digits to the base b are f 0, f 1, .., f (n - 1), the first on top
unfoldable pub value : ℕ → ℕ → (ℕ → ℕ) → ℕ
value b zero f = 0
value b (suc n) f = value b n f * b + f n

-- the number whose n bits are f 0, f 1, .., f (n - 1), the first on top
abbrev pub number : ℕ → (ℕ → ℕ) → ℕ
number n f = value 2 n f

-- bit i of a number of n bits, bit 0 on top
unfoldable pub bit_of : ℕ → ℕ → ℕ → ℕ
bit_of n w i = w / 2 ^ (n - 1 - i) % 2

-- bit i of a byte string, bit 0 on top of the first byte
unfoldable pub bit_at : List ℕ → ℕ → ℕ
bit_at s i = bit_of 8 (get_or s (i / 8) 0) (i % 8)

-- a field: the number of the n bits of a byte string from bit i on
unfoldable pub field_at : List ℕ → ℕ → ℕ → ℕ
field_at s i n = number n (λ q. bit_at s (i + q))

-- the number of the eight bytes from place o on; 0 where there are not eight
unfoldable pub loaded_at : List ℕ → ℕ → ℕ
loaded_at s o = cond (ltb (length s) (o + 8)) 0 (field_at s (8 * o) 64)

-- the n bytes whose bits are f 0, f 1, ..
unfoldable pub bytes : ℕ → (ℕ → ℕ) → List ℕ
bytes n f = tabulate n (λ b. number 8 (λ i. f (8 * b + i)))

-- every element is a byte
pub record AllBytes (s : List ℕ) : Type 0 where
  pub byte : (m : ℕ) → get_or s m 0 < 256

-- how many i below n pass the test
unfoldable pub count : (ℕ → Bool) → ℕ → ℕ
count p zero = 0
count p (suc n) = cond (p n) 1 0 + count p n

-- the smallest i below n that passes the test; n where none does
unfoldable pub least : (ℕ → Bool) → ℕ → ℕ
least p zero = 0
least p (suc n) = cond (p 0) 0 (suc (least (λ i. p (suc i)) n))

-- the first of a list that passes the test; else another
unfoldable pub first : {A : Type 0} → (A → Bool) → List A → A → A
first p [] other = other
first p (x ∷ xs) other = cond (p x) x (first p xs other)
