-- The word code BCH(126,110) (01, BCH; 000, 5.3). A word is a number of 126 bits: bit 0, on top, is the coefficient of x^125; bits 0 to 109 are the
-- information, bits 110 to 125 the parity. A sum of polynomials over GF(2) is an exclusive or.
-- Assumes nothing.
use Rattle.std.specs.Prelude.{◌≡◌, not, ℕ, zero, suc, ◌+◌, ◌*◌, ◌-◌, ◌/◌, ◌%◌, ◌^◌, eqb}
use Rattle.std.specs.Int.Bits.{bit_xor}
use Rattle.bits.specs.definitions.Bits.{bit_of, count}

-- x^16 + x^14 + x^11 + x^10 + x^9 + x^7 + x^5 + x^3 + x + 1
abbrev pub generator : ℕ
generator = 0x14EAB

-- the product of the generator and the polynomial of the k low bits of q
unfoldable pub multiple : ℕ → ℕ → ℕ
multiple zero q = 0
multiple (suc k) q = bit_xor (multiple k (q / 2) * 2) (q % 2 * generator)

-- a code word: the product of the generator and a polynomial of 110 coefficients, so of at most 126 bits
pub record CodeWord (c : ℕ) : Type 0 where
  pub quotient : ℕ
  pub product : c ≡ multiple 110 quotient

-- in how many of their 126 bits two words differ
unfoldable pub distance : ℕ → ℕ → ℕ
distance v w = count (λ i. not (eqb (bit_of 126 v i) (bit_of 126 w i))) 126

-- one more coefficient b below the remainder r: twice r and b, less the generator where a bit leaves at the top
unfoldable pub step_of : ℕ → ℕ → ℕ
step_of r b = bit_xor (r * 2 + b) (r / 2 ^ 15 * generator)

-- the coefficients that are the k low bits of w, the highest first, below the remainder r
unfoldable pub feed_of : ℕ → ℕ → ℕ → ℕ
feed_of r zero w = r
feed_of r (suc k) w = step_of (feed_of r k (w / 2)) (w % 2)

-- the remainder by the generator of the polynomial of the k low bits of w
abbrev pub remainder : ℕ → ℕ → ℕ
remainder k w = feed_of 0 k w

-- the parity of 110 information bits: the remainder of their polynomial times x^16
unfoldable pub parity_of : ℕ → ℕ
parity_of m = remainder 126 (m * 2 ^ 16)

-- the word sent: the information bits, then their parity
unfoldable pub coded : ℕ → ℕ
coded m = m * 2 ^ 16 + parity_of m

-- the word with bit i flipped
unfoldable pub flipped : ℕ → ℕ → ℕ
flipped i w = bit_xor w (2 ^ (125 - i))
