-- What the look-ups lead to, confirmed, is what `mend` says; and a word with those bits flipped is the word that is passed on.
-- Assumes nothing.
use mathlib.Core.Path.{◌≡◌, refl, sym, ap, ◌∙◌}
use mathlib.Core.Bool.{cond}
use mathlib.Core.Logic.{◌≢◌, inl, inr}
use Prim.Native.Nat.{ℕ, ◌+◌, ◌-◌, ◌^◌, ◌<◌, ◌≤◌}
use native.Mathlib.Nat.{add_comm}
use native.Mathlib.Omega.{arith}
use native.Mathlib.Decide.{dec_lt}
use lib.Dec.{ltb, lit<}
use lib.Pow.{pow-lt}
use lib.Bits.{bit_xor, xor_comm, xor_lt, xor_zero_r}
use Rattle.std.specs.Prelude.{min, max}
use borrow.Author.Tests.{lt-ltb, le-ltb}
use Rattle.bits.proofs.Weight.{weight, weight_zero, weight_power, weight_sum}
use Rattle.bch.specs.definitions.Code.{remainder}
use Rattle.bch.proofs.Remainder.{remainder_xor}
use Rattle.decoder_tables.specs.private.Tables.{single, column, Finds, located, rising_of, flipped_at}
use Rattle.decoder_tables.specs.declared.Arrays.{Arrays}
use Rattle.decoder.specs.definitions.Mend.{mend, mended, flag_of}
use Rattle.decoder.specs.private.Answer.{Pattern, remainder_of, Answers, places_of, count_of, pattern_rising, pattern_at}
use Rattle.decoder.specs.declared.Mend.{Mend}
use Rattle.decoder.specs.declared.Mend.TheVariants.{Clean, One, Two, Flagged}
use Rattle.decoder.proofs.Patterns.{mask, mended_mask, remainder_mask, finds_places, answers_unique, mend_own}
use Rattle.decoder.proofs.Distance.{light_pattern}

-- ---- two places, in any order

-- the word whose bits are those at two places
abbrev both : ℕ × ℕ → ℕ
both p = bit_xor (single p.0) (single p.1)

-- how many of two places are bits'
abbrev counted : ℕ × ℕ → ℕ
counted p = count_of p.0 + count_of p.1

-- what is the same the other way round is the same in rising order
in_order : (f : ℕ × ℕ → ℕ) → ((x y : ℕ) → f (x, y) ≡ f (y, x)) → (p : ℕ × ℕ) → f (rising_of p) ≡ f p
unfolding rising_of
in_order f h (x, y) = go (dec_lt x y)
  where
    go : Dec (x < y) → f (min x y, max x y) ≡ f (x, y)
    go (yes l) = let a : min x y ≡ x = omega arith in let b : max x y ≡ y = omega arith in rw (a, b) refl
    go (no l) = let a : min x y ≡ y = omega arith in let b : max x y ≡ x = omega arith in rw (a, b) (h y x)

-- ---- the pattern at two places, whatever they are

module _ {i j : ℕ} (rises : i ≤ j) where
  flag_rising : counted (i, j) ≡ flag_of (pattern_rising (i, j))
  unfolding pattern_rising flag_of
  flag_rising = go (dec_lt i 126) (dec_lt j 126)
    where
      go : Dec (i < 126) → Dec (j < 126) → counted (i, j) ≡ flag_of (pattern_rising (i, j))
      go (yes a) (yes b) = rw (lt-ltb i 126 a, lt-ltb j 126 b) refl
      go (yes a) (no b) = rw (lt-ltb i 126 a, le-ltb j 126 (omega arith)) refl
      go (no a) (yes b) = absurd (omega arith)
      go (no a) (no b) = rw (le-ltb i 126 (omega arith), le-ltb j 126 (omega arith)) refl

  bits_rising : both (i, j) ≡ mask (pattern_rising (i, j))
  unfolding pattern_rising mask single
  bits_rising = go (dec_lt i 126) (dec_lt j 126)
    where
      go : Dec (i < 126) → Dec (j < 126) → both (i, j) ≡ mask (pattern_rising (i, j))
      go (yes a) (yes b) = rw (lt-ltb i 126 a, lt-ltb j 126 b) refl
      go (yes a) (no b) = rw (lt-ltb i 126 a, le-ltb j 126 (omega arith)) (xor_zero_r (2 ^ (125 - i)))
      go (no a) (yes b) = absurd (omega arith)
      go (no a) (no b) = rw (le-ltb i 126 (omega arith), le-ltb j 126 (omega arith)) refl

-- its flag counts the bits
pub flag_there : (p : ℕ × ℕ) → counted p ≡ flag_of (pattern_at p)
unfolding pattern_at rising_of
flag_there p = sym (in_order counted (λ x y. add_comm (count_of x) (count_of y)) p) ∙ flag_rising (omega arith)

-- they are its bits
bits_there : (p : ℕ × ℕ) → both p ≡ mask (pattern_at p)
unfolding pattern_at rising_of
bits_there p = sym (in_order both (λ x y. xor_comm (single x) (single y)) p) ∙ bits_rising (omega arith)

-- and a word with these flipped is the word with the pattern's flipped
pub flipped_there : (w : ℕ) (p : ℕ × ℕ) → flipped_at w p.0 p.1 ≡ mended w (pattern_at p)
flipped_there w p = ap (bit_xor w) (bits_there p) ∙ sym (mended_mask w (pattern_at p))

-- the pattern at two places that in rising order are a pattern's is that one
pattern_there : (m : Mend) → Pattern m → (p : ℕ × ℕ) → rising_of p ≡ places_of m → pattern_at p ≡ m
unfolding pattern_at pattern_rising Pattern places_of
pattern_there m P p e = ap pattern_rising e ∙ own m P
  where
    own : (m : Mend) → Pattern m → pattern_rising (places_of m) ≡ m
    own Clean P = refl
    own (One i) h = rw (lt-ltb i 126 h) refl
    own (Two i j) (l, h) = rw (lt-ltb j 126 h) refl
    own Flagged P = absurd P

-- whatever two places are, their bits are a word of weight at most two, so a pattern's
single_light : (i : ℕ) → (single i < 2 ^ 126) × (weight 126 (single i) ≤ 1)
unfolding single
single_light i = go (dec_lt i 126)
  where
    go : Dec (i < 126) → (cond (ltb i 126) (2 ^ (125 - i)) 0 < 2 ^ 126) × (weight 126 (cond (ltb i 126) (2 ^ (125 - i)) 0) ≤ 1)
    go (yes h) =
        let d : 125 - i < 126 = omega arith in
        rw (lt-ltb i 126 h) (pow-lt d, omega (arith, weight_power 126 (125 - i) d))
    go (no h) = rw (le-ltb i 126 (omega arith)) (lit< tt, omega (arith, weight_zero 126))

-- ---- what the look-ups lead to

module _ {a : Arrays} (F : Finds a) (s : ℕ) (h : s < 65536) {p : ℕ × ℕ} (looked : p ≡ located a s) where
  -- to a pattern's places, if one has the remainder
  leads : (m : Mend) → Pattern m → remainder_of m ≡ s → rising_of p ≡ places_of m
  leads m P e = ap rising_of (looked ∙ sym (ap (located a) e)) ∙ finds_places F m P

  sum_is : bit_xor (column p.0) (column p.1) ≡ remainder 126 (both p)
  unfolding column
  sum_is = sym (remainder_xor 126 (single p.0) (single p.1))

  pub found_there : bit_xor (column p.0) (column p.1) ≡ s → pattern_at p ≡ mend s
  found_there e =
      let l = single_light p.0 in
      let r = single_light p.1 in
      let q =
      light_pattern (both p) (xor_lt 126 (single p.0) (single p.1) l.0 r.0) (omega (arith, weight_sum 126 (single p.0) (single p.1))) in
      let has : remainder_of q.pattern ≡ s = remainder_mask q.pattern q.is ∙ ap (remainder 126) q.bits ∙ sym sum_is ∙ e in
      pattern_there q.pattern q.is p (leads q.pattern q.is has) ∙ answers_unique s q.pattern (mend s) (inl (q.is, has)) (mend_own s h)

  pub found_none : bit_xor (column p.0) (column p.1) ≢ s → Flagged ≡ mend s
  found_none n = go (mend_own s h)
    where
      go : Answers s (mend s) → Flagged ≡ mend s
      go (inl (P, c)) =
          absurd
          (n
          (sum_is ∙ ap (remainder 126) (bits_there p ∙ ap mask (pattern_there (mend s) P p (leads (mend s) P c)))
          ∙ sym (remainder_mask (mend s) P) ∙ c))
      go (inr (f, none)) = sym f
