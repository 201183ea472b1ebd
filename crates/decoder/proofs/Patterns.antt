-- Patterns of at most two bits and their remainders: no two patterns have the same, and what `mend` finds first has its word's.
-- Assumes nothing.
use mathlib.Core.Path.{◌≡◌, refl, sym, ap, ap₂, ◌∙◌, subst}
use mathlib.Core.Bool.{Bool}
use mathlib.Core.Logic.{◌⊎◌, inl, inr, ⊎_elim}
use mathlib.Core.List.Memᴰ
use mathlib.Core.List.{List, ◌++◌, Memᴰ}
use Prim.Native.Nat.{ℕ, suc, ◌+◌, ◌-◌, ◌^◌, ◌<◌}
use native.Mathlib.Omega.{arith}
use lib.Dec.{eqb}
use lib.Bits.{bit_xor, xor_self, xor_zero_r}
use borrow.Author.Tests.{lt-ltb, eqb-true, eqb-false}
use Rattle.bits.specs.definitions.Bits.{tabulate, first}
use Rattle.bits.proofs.Xor.{xor_assoc, xor_zero_eq}
use Rattle.bits.proofs.First.{Found, None, first_cases, first_cong, in_tabulate, of_tabulate, in_flatten, of_flatten}
use Rattle.bch.specs.definitions.Code.{CodeWord, remainder, flipped}
use Rattle.decoder.specs.definitions.Mend.{pairs, patterns, mended, is_code, mend}
use Rattle.decoder_tables.specs.private.Tables.{single, column, Finds, located, rising_of}
use Rattle.decoder.specs.private.Answer.{remainder_of, Pattern, Answers, places_of}
use Rattle.decoder_tables.specs.declared.Arrays.{Arrays}
use Rattle.decoder.specs.declared.Mend.{Mend}
use Rattle.decoder.specs.declared.Mend.TheVariants.{Clean, One, Two, Flagged}
use Rattle.bch.proofs.Remainder.{remainder_xor, remainder_zero, remainder_code_xor, remainder_lt, remainder_lead, remainder_own}
use Rattle.decoder_tables.proofs.Entries.{arrays, finds}

-- the word whose bits are the pattern's
unfoldable pub mask : Mend → ℕ
mask Clean = 0
mask (One i) = 2 ^ (125 - i)
mask (Two i j) = bit_xor (2 ^ (125 - i)) (2 ^ (125 - j))
mask Flagged = 0

pub mended_mask : (w : ℕ) (m : Mend) → mended w m ≡ bit_xor w (mask m)
unfolding mask mended flipped
mended_mask w Clean = sym (xor_zero_r w)
mended_mask w (One i) = refl
mended_mask w (Two i j) = xor_assoc w (2 ^ (125 - i)) (2 ^ (125 - j))
mended_mask w Flagged = sym (xor_zero_r w)

pub single_bit : (i : ℕ) → i < 126 → single i ≡ 2 ^ (125 - i)
unfolding single
single_bit i h = rw (lt-ltb i 126 h)

pub remainder_mask : (m : Mend) → Pattern m → remainder_of m ≡ remainder 126 (mask m)
unfolding mask Pattern remainder_of column
remainder_mask Clean P = sym (remainder_zero 126)
remainder_mask (One i) h = ap (remainder 126) (single_bit i h)
remainder_mask (Two i j) (l, h) =
    sym (remainder_xor 126 (single i) (single j)) ∙ ap₂ (λ (x y : ℕ). remainder 126 (bit_xor x y)) (single_bit i (omega arith)) (single_bit j h)
remainder_mask Flagged P = absurd P

-- ---- no two patterns have the same remainder

places_apart : (m n : Mend) → Pattern m → Pattern n → places_of m ≡ places_of n → m ≡ n
unfolding Pattern places_of
places_apart m n P Q e = go m n P Q (ap (λ (p : ℕ × ℕ). p.0) e) (ap (λ (p : ℕ × ℕ). p.1) e)
  where
    go : (m n : Mend) → Pattern m → Pattern n → (places_of m).0 ≡ (places_of n).0 → (places_of m).1 ≡ (places_of n).1 → m ≡ n
    go Clean Clean P Q e f = refl
    go Clean (One j) P Q e f = absurd (omega arith)
    go Clean (Two j l) P (o, Q) e f = absurd (omega arith)
    go Clean Flagged P Q e f = absurd Q
    go (One i) Clean P Q e f = absurd (omega arith)
    go (One i) (One j) P Q e f = ap One e
    go (One i) (Two j l) P (o, Q) e f = absurd (omega arith)
    go (One i) Flagged P Q e f = absurd Q
    go (Two i k) Clean (o, P) Q e f = absurd (omega arith)
    go (Two i k) (One j) (o, P) Q e f = absurd (omega arith)
    go (Two i k) (Two j l) P Q e f = ap₂ Two e f
    go (Two i k) Flagged P Q e f = absurd Q
    go Flagged n P Q e f = absurd P

pub finds_places : {a : Arrays} → Finds a → (m : Mend) → Pattern m → rising_of (located a (remainder_of m)) ≡ places_of m
unfolding Pattern remainder_of places_of
finds_places F Clean P = F.no_bit
finds_places F (One i) h = F.one_bit i h
finds_places F (Two i j) (l, h) = F.two_bits i j l h
finds_places F Flagged P = absurd P

pub patterns_apart : (m n : Mend) → Pattern m → Pattern n → remainder_of m ≡ remainder_of n → m ≡ n
patterns_apart m n P Q e =
    places_apart m n P Q (sym (finds_places finds m P) ∙ ap (λ (s : ℕ). rising_of (located arrays s)) e ∙ finds_places finds n Q)

pub answers_unique : (s : ℕ) (m n : Mend) → Answers s m → Answers s n → m ≡ n
answers_unique s m n (inl (P, e)) (inl (Q, f)) = patterns_apart m n P Q (e ∙ sym f)
answers_unique s m n (inl (P, e)) (inr (f, none)) = absurd (none m P e)
answers_unique s m n (inr (e, none)) (inl (Q, f)) = absurd (none n Q f)
answers_unique s m n (inr (e, a)) (inr (f, b)) = e ∙ sym f

-- ---- what `mend` finds first is the answer

in_patterns : (m : Mend) → Pattern m → Memᴰ m patterns
unfolding Pattern patterns pairs
in_patterns Clean P = Memᴰ.head refl
in_patterns (One i) h = Memᴰ.tail (Memᴰ.append_left pairs (in_tabulate 126 One i h))
in_patterns (Two i j) (l, h) =
    let k : suc i + (j - suc i) ≡ j = omega arith in
    Memᴰ.tail
    (Memᴰ.append_right (tabulate 126 One)
    (in_flatten (tabulate 126 (λ i. tabulate (125 - i) (λ k. Two i (suc i + k)))) (tabulate (125 - i) (λ k. Two i (suc i + k))) (Two i j)
    (in_tabulate 126 (λ i. tabulate (125 - i) (λ k. Two i (suc i + k))) i (omega arith))
    (subst (λ (x : ℕ). Memᴰ (Two i x) (tabulate (125 - i) (λ k. Two i (suc i + k)))) k
    (in_tabulate (125 - i) (λ k. Two i (suc i + k)) (j - suc i) (omega arith)))))
in_patterns Flagged P = absurd P

of_patterns : (m : Mend) → Memᴰ m patterns → Pattern m
unfolding Pattern patterns pairs
of_patterns m k = go (Memᴰ.cases_cons k)
  where
    row : ℕ → List Mend
    row i = tabulate (125 - i) (λ k. Two i (suc i + k))

    go : (m ≡ Clean) ⊎ Memᴰ m (tabulate 126 One ++ pairs) → Pattern m
    go (inl e) = subst Pattern (sym e) tt
    go (inr k) =
        ⊎_elim
        (λ a. let r = of_tabulate 126 One m a in subst Pattern (sym r.2) r.1)
        (λ b.
        let q = of_flatten (tabulate 126 row) m b in
        let r = of_tabulate 126 row q.0 q.1 in
        let t = of_tabulate (125 - r.0) (λ k. Two r.0 (suc r.0 + k)) m (subst (Memᴰ m) r.2 q.2) in
        let below : t.0 < 125 - r.0 = t.1 in
        subst Pattern (sym t.2) (omega arith, omega arith))
        (Memᴰ.append_cases (tabulate 126 One) k)

-- a pattern makes w a code word exactly if it has w's remainder
mended_remainder : (w : ℕ) (m : Mend) → Pattern m → remainder 126 (mended w m) ≡ bit_xor (remainder 126 w) (remainder_of m)
mended_remainder w m P = ap (remainder 126) (mended_mask w m) ∙ remainder_xor 126 w (mask m) ∙ ap (bit_xor (remainder 126 w)) (sym (remainder_mask m P))

pub mend_answers : (w : ℕ) → Answers (remainder 126 w) (mend w)
unfolding mend
mend_answers w = go (first_cases test patterns Flagged)
  where
    test : Mend → Bool
    test m = is_code (mended w m)

    m : Mend
    m = first test patterns Flagged

    go : Found test patterns m ⊎ None test patterns Flagged m → Answers (remainder 126 w) m
    go (inl f) =
        let P = of_patterns m f.member in
        inl (P, sym (xor_zero_eq (remainder 126 w) (remainder_of m) (sym (mended_remainder w m P) ∙ eqb-true (remainder 126 (mended w m)) 0 f.passes)))
    go (inr n) =
        inr (
          n.is,
          λ p P e.
              eqb-false (remainder 126 (mended w p)) 0 (n.fails p (in_patterns p P))
              (mended_remainder w p P ∙ ap (bit_xor (remainder 126 w)) e ∙ xor_self (remainder 126 w)),
        )

-- a remainder is a word too, and its own remainder
pub mend_own : (s : ℕ) → s < 65536 → Answers s (mend s)
mend_own s h = subst (λ (r : ℕ). Answers r (mend s)) (remainder_lead 110 16 s h ∙ remainder_own s h) (mend_answers s)

-- so what is flipped in a word is what is flipped in its remainder
pub mend_remainder : (w : ℕ) → mend w ≡ mend (remainder 126 w)
mend_remainder w =
    answers_unique (remainder 126 w) (mend w) (mend (remainder 126 w)) (mend_answers w) (mend_own (remainder 126 w) (remainder_lt 126 w))

-- ---- a code word changes nothing

pub mend_code : {c : ℕ} (e : ℕ) → CodeWord c → mend (bit_xor c e) ≡ mend e
unfolding mend
mend_code {c} e C =
    first_cong (λ m. is_code (mended (bit_xor c e) m)) (λ m. is_code (mended e m)) patterns Flagged
    (λ m. ap (λ (r : ℕ). eqb r 0)
    (ap (remainder 126) (mended_mask (bit_xor c e) m ∙ xor_assoc c e (mask m) ∙ ap (bit_xor c) (sym (mended_mask e m)))
    ∙ remainder_code_xor (mended e m) C))
