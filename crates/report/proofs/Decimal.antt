-- Numbers in decimal, as they are read and as the library prints them.
-- Assumes nothing.
use mathlib.Core.Bool.{false}
use mathlib.Core.Path.{◌≡◌, refl, sym, ap, ◌∙◌, subst}
use mathlib.Core.Logic.{◌≢◌, ◌⊎◌, inl, inr, ⊎_elim}
use mathlib.Core.List.Memᴰ
use mathlib.Core.List.{List, [], ◌∷◌, ◌++◌, append_assoc, append-nil, Memᴰ}
use Prim.Native.Nat.{ℕ, zero, suc, ◌+◌, ◌*◌, ◌-◌, ◌/◌, ◌%◌, ◌^◌, ◌≤◌, ◌<◌, zero-le}
use native.Mathlib.Nat.{pow-suc}
use native.Mathlib.Omega.{arith}
use lib.ListN.{length, get_or, length-append, get_or-append}
use lib.Seq.{get_or-append_seam}
use borrow.Author.Tests.{lt-ltb, le-ltb, ne_eqb}
use Rattle.bits.specs.definitions.Bits.{tabulate, value}
use Rattle.bits.proofs.Value.{value_cong}
use Rattle.lanes.proofs.Rows.{lt_or_le}
use Rattle.std.specs.Fmt.{digit_glyph, digits_onto, digits as printed_digits, decimal as printed}
use Rattle.report.specs.definitions.Report.{digits, decimal}
use Rattle.report.specs.statements.Examples.{DecimalReads}

-- the last digit, alone or behind others
module _ (k n : ℕ) where
  pub one_digit : n < 10 → digits (suc k) n ≡ (48 + n) ∷ []
  unfolding digits
  one_digit h = rw (lt-ltb n 10 h) refl

  pub more_digits : 10 ≤ n → digits (suc k) n ≡ digits k (n / 10) ++ ((48 + n % 10) ∷ [])
  unfolding digits
  more_digits h = rw (le-ltb n 10 h) refl

-- without its last digit a number fits in one digit less
tenth : (k n : ℕ) → n < 10 ^ suc k → n / 10 < 10 ^ k
tenth k n h = let r = rw (pow-suc 10 k) at h in omega arith

-- never more digits than are allowed
pub digits_fit : (k n : ℕ) → length (digits k n) ≤ k
unfolding digits
digits_fit zero n = zero-le
digits_fit (suc k) n = go (lt_or_le n 10) (digits_fit k (n / 10))
  where
    go : (n < 10) ⊎ (10 ≤ n) → length (digits k (n / 10)) ≤ k → length (digits (suc k) n) ≤ suc k
    go (inl h) ih = let e = ap length (one_digit k n h) in omega arith
    go (inr h) ih = let e = ap length (more_digits k n h) ∙ length-append (digits k (n / 10)) ((48 + n % 10) ∷ []) in omega arith

-- there is a digit where one is allowed
digits_some : (k n : ℕ) → 0 < length (digits (suc k) n)
digits_some k n = go (lt_or_le n 10)
  where
    go : (n < 10) ⊎ (10 ≤ n) → 0 < length (digits (suc k) n)
    go (inl h) = let e = ap length (one_digit k n h) in omega arith
    go (inr h) = let e = ap length (more_digits k n h) ∙ length-append (digits k (n / 10)) ((48 + n % 10) ∷ []) in omega arith

some : (k n : ℕ) → n < 10 ^ k → 1 ≤ n → 0 < length (digits k n)
some zero n h o = absurd (omega arith)
some (suc k) n h o = digits_some k n

-- every byte is one of 0 to 9
digits_digits : (k n b : ℕ) → Memᴰ b (digits k n) → (48 ≤ b) × (b ≤ 57)
unfolding digits
digits_digits zero n b m = absurd (Memᴰ.not-nil m)
digits_digits (suc k) n b m = go (lt_or_le n 10) (digits_digits k (n / 10) b)
  where
    alone : (d : ℕ) → d < 10 → Memᴰ b ((48 + d) ∷ []) → (48 ≤ b) × (b ≤ 57)
    alone d l j = let e = Memᴰ.eq_of_singleton j in (omega arith, omega arith)

    go : (n < 10) ⊎ (10 ≤ n) → (Memᴰ b (digits k (n / 10)) → (48 ≤ b) × (b ≤ 57)) → (48 ≤ b) × (b ≤ 57)
    go (inl h) ih = alone n h (subst (Memᴰ b) (one_digit k n h) m)
    go (inr h) ih = ⊎_elim ih (λ j. alone (n % 10) (omega arith) j) (Memᴰ.append_cases (digits k (n / 10)) (subst (Memᴰ b) (more_digits k n h) m))

-- a digit behind others
module _ (t : List ℕ) (d : ℕ) where
  longer : length (t ++ ((48 + d) ∷ [])) ≡ suc (length t)
  longer = length-append t ((48 + d) ∷ []) ∙ (omega arith)

  -- the number that digits say, ten times as much and the digit more
  behind : value 10 (length (t ++ ((48 + d) ∷ []))) (λ j. get_or (t ++ ((48 + d) ∷ [])) j 0 - 48) ≡ value 10 (length t) (λ j. get_or t j 0 - 48) * 10 + d
  unfolding value
  behind =
      let last : get_or (t ++ ((48 + d) ∷ [])) (length t) 0 ≡ 48 + d = get_or-append_seam t (48 + d) [] 0 in
      ap (λ (l : ℕ). value 10 l (λ j. get_or (t ++ ((48 + d) ∷ [])) j 0 - 48)) longer
      ∙ ap (λ (v : ℕ). v * 10 + (get_or (t ++ ((48 + d) ∷ [])) (length t) 0 - 48))
      (value_cong 10 (length t) _ _ (λ j l. ap (λ (x : ℕ). x - 48) (get_or-append t ((48 + d) ∷ []) 0 j l)))
      ∙ (omega arith)

reads : (k n : ℕ) → n < 10 ^ k → value 10 (length (digits k n)) (λ j. get_or (digits k n) j 0 - 48) ≡ n
unfolding digits value
reads zero n h = omega arith
reads (suc k) n h = go (lt_or_le n 10) (reads k (n / 10) (tenth k n h))
  where
    said : List ℕ → ℕ
    said t = value 10 (length t) (λ j. get_or t j 0 - 48)

    go : (n < 10) ⊎ (10 ≤ n) → said (digits k (n / 10)) ≡ n / 10 → said (digits (suc k) n) ≡ n
    go (inl l) ih = ap said (one_digit k n l) ∙ (omega arith)
    go (inr l) ih = ap said (more_digits k n l) ∙ behind (digits k (n / 10)) (n % 10) ∙ (omega arith)

leads : (k n : ℕ) → n < 10 ^ k → 1 ≤ n → get_or (digits k n) 0 0 ≢ 48
unfolding digits
leads zero n h o = absurd (omega arith)
leads (suc k) n h o = go (lt_or_le n 10) (leads k (n / 10) (tenth k n h))
  where
    go : (n < 10) ⊎ (10 ≤ n) → (1 ≤ n / 10 → get_or (digits k (n / 10)) 0 0 ≢ 48) → get_or (digits (suc k) n) 0 0 ≢ 48
    go (inl l) ih z = let e = ap (λ (t : List ℕ). get_or t 0 0) (one_digit k n l) in omega arith
    go (inr l) ih z =
        ih (omega arith)
        (sym (ap (λ (t : List ℕ). get_or t 0 0) (more_digits k n l) ∙ get_or-append (digits k (n / 10)) ((48 + n % 10) ∷ []) 0 0
        (some k (n / 10) (tenth k n h) (omega arith))) ∙ z)

pub decimal_reads : DecimalReads
unfolding digits tabulate
decimal_reads = (λ n h. (reads 20 n (omega arith), leads 20 n (omega arith)), refl, λ n b m. digits_digits 20 n b m)

-- in as many digits as it needs or more, a number is the one that the library prints
prints : (k m n : ℕ) (rest : List ℕ) → n < 10 ^ k → k ≤ m → 0 < k → digits k n ++ rest ≡ digits_onto m 10 false n rest
unfolding digits
prints zero m n rest h l z = absurd (omega arith)
prints (suc k) zero n rest h l z = absurd (omega arith)
prints (suc k) (suc m) n rest h l z = go (lt_or_le n 10) (prints k m (n / 10) ((48 + n % 10) ∷ rest) (tenth k n h) (omega arith))
  where
    glyph : (d : ℕ) → d < 10 → digit_glyph false d ≡ 48 + d
    glyph d f = rw (lt-ltb d 10 f) refl

    go : (n < 10) ⊎ (10 ≤ n) → (0 < k → digits k (n / 10) ++ ((48 + n % 10) ∷ rest) ≡ digits_onto m 10 false (n / 10) ((48 + n % 10) ∷ rest))
        → digits (suc k) n ++ rest ≡ digits_onto (suc m) 10 false n rest
    go (inl f) ih =
        let tens : n / 10 ≡ 0 = omega arith in
        let ones : n % 10 ≡ n = omega arith in
        ap (λ (t : List ℕ). t ++ rest) (one_digit k n f) ∙ rw (tens, ones, glyph n f) refl
    go (inr f) ih =
        ap (λ (t : List ℕ). t ++ rest) (more_digits k n f) ∙ append_assoc (digits k (n / 10)) ((48 + n % 10) ∷ []) rest ∙ ih (room k h)
        ∙ rw (ne_eqb (n / 10) 0 (λ z. absurd (omega arith)), glyph (n % 10) (omega arith)) refl
      where
        room : (j : ℕ) → n < 10 ^ suc j → 0 < j
        room zero l = absurd (omega arith)
        room (suc j) l = omega arith

-- a number of 64 bits in decimal is what the library prints
pub decimal_printed : (n : ℕ) → n < 2 ^ 64 → printed n ≡ decimal n
unfolding printed_digits
decimal_printed n h = sym (prints 20 64 n [] (omega arith) (omega arith) (omega arith)) ∙ append-nil (decimal n)
