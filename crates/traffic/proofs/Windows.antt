-- 64 bits of two words that follow one another, from any bit on.
-- Assumes nothing.
use mathlib.Core.Path.{◌≡◌, sym, ap, ap₂, ◌∙◌}
use Prim.Native.Nat.{ℕ, ◌+◌, ◌*◌, ◌-◌, ◌/◌, ◌%◌, ◌^◌, ◌<◌}
use native.Mathlib.Nat.{add-zero, mul_assoc, mul-add-div_right, mul-mod_left}
use native.Mathlib.Omega.{arith}
use lib.Arith.{digits_div, digits_mod}
use lib.Pow.{pow-add, pow_pos, shr_lt, shr-shr, shl-shr, mod-pow-add}
use lib.Bits.{bit_or, or_shifted}
use Rattle.bits.specs.definitions.Bits.{number}
use Rattle.bits.proofs.Value.{value_append, value_top, value_low}

-- `(a << k) | (b >> 1 >> (63 - k))`
module _ (a b k : ℕ) (hb : b < 2 ^ 64) (h : k < 64) where
  abbrev below : ℕ
  below = b / 2 ^ (64 - k)

  below_lt : below < 2 ^ k
  below_lt = let e : 64 ≡ k + (64 - k) = omega arith in shr_lt {n = b} k (64 - k) (rw (← e) hb)

  cut : a * 2 ^ k % 2 ^ 64 ≡ a % 2 ^ (64 - k) * 2 ^ k
  cut =
      let e : 64 ≡ 64 - k + k = omega arith in
      ap (λ (m : ℕ). a * 2 ^ k % 2 ^ m) e ∙ mod-pow-add (a * 2 ^ k) (64 - k) k
      ∙ ap₂ (λ (x y : ℕ). x % 2 ^ (64 - k) * 2 ^ k + y) (shl-shr a k) (mul-mod_left a (2 ^ k)) ∙ add-zero (a % 2 ^ (64 - k) * 2 ^ k)

  pub window_law : bit_or (a * 2 ^ k % 2 ^ 64) (b / 2 ^ 1 / 2 ^ (63 - k)) ≡ (a * 2 ^ 64 + b) / 2 ^ (64 - k) % 2 ^ 64
  window_law =
      let e : 1 + (63 - k) ≡ 64 - k = omega arith in
      let f : 64 ≡ k + (64 - k) = omega arith in
      let g : 64 ≡ 64 - k + k = omega arith in
      ap₂ bit_or cut (shr-shr b 1 (63 - k) ∙ ap (λ (m : ℕ). b / 2 ^ m) e) ∙ or_shifted (a % 2 ^ (64 - k)) k below below_lt
      ∙ sym
      (ap (λ (m : ℕ). (a * 2 ^ m + b) / 2 ^ (64 - k) % 2 ^ 64) f ∙ ap (λ (m : ℕ). (a * m + b) / 2 ^ (64 - k) % 2 ^ 64) (pow-add 2 k (64 - k))
      ∙ ap (λ (x : ℕ). (x + b) / 2 ^ (64 - k) % 2 ^ 64) (sym (mul_assoc a (2 ^ k) (2 ^ (64 - k))))
      ∙ ap (λ (x : ℕ). x % 2 ^ 64) (mul-add-div_right (pow_pos (64 - k)) (a * 2 ^ k) b)
      ∙ ap (λ (m : ℕ). (a * 2 ^ k + below) % 2 ^ m) g ∙ mod-pow-add (a * 2 ^ k + below) (64 - k) k
      ∙ ap₂ (λ (x y : ℕ). x % 2 ^ (64 - k) * 2 ^ k + y) (digits_div a below_lt) (digits_mod a below_lt))

-- a window of the words whose bits are f 0, f 1, ..
pub window_number : (f : ℕ → ℕ) → ((i : ℕ) → f i < 2) → (k : ℕ) → k < 64
    → (number 64 f * 2 ^ 64 + number 64 (λ q. f (64 + q))) / 2 ^ (64 - k) % 2 ^ 64 ≡ number 64 (λ q. f (k + q))
window_number f bit k h =
    let e : 64 + 64 ≡ k + 64 + (64 - k) = omega arith in
    ap (λ (x : ℕ). x / 2 ^ (64 - k) % 2 ^ 64) (sym (value_append 2 64 64 f) ∙ ap (λ (n : ℕ). number n f) e)
    ∙ ap (λ (x : ℕ). x % 2 ^ 64) (value_top 2 (k + 64) (64 - k) f (λ i _. bit i)) ∙ value_low 2 k 64 f (λ i _. bit i)
