-- Folding: bits at the top of a number go, and lower ones with the same remainder are added. By a power of x that has the remainder of a sum of lower
-- powers many bits go at once; by the table, a byte.
-- Assumes nothing.
use mathlib.Core.Path.{◌≡◌, refl, sym, ap, ap₂, ◌∙◌, subst}
use mathlib.Core.Bool.{Bool, true, ◌&&◌}
use mathlib.Core.List.{List, [], ◌∷◌}
use mathlib.Core.Logic.{◌≢◌}
use Prim.Native.Nat.{ℕ, ◌+◌, ◌*◌, ◌-◌, ◌/◌, ◌%◌, ◌^◌, ◌<◌, ◌≤◌}
use native.Mathlib.Nat.{lt_of_le_of_lt, mod-lt, mod-eq_of_lt, mul-one, not-suc-le-zero}
use native.Mathlib.Decide.{ℕ_discrete}
use native.Mathlib.Omega.{arith}
use borrow.Author.Count.{below_more}
use lib.Dec.{T, leb, leb→le, lit<, lit≤}
use lib.ListN.{length, get_or, set}
use lib.Pow.{pow_pos, shl_lt, shl_exact, shr_mod, shr-shr, mod-mod-pow, high, low}
use lib.Seq.{get_or-set_same, get_or-set_other, set-get_or}
use lib.Bits.{bit_xor, xor_lt, xor_zero_r}
use Rattle.bits.specs.declared.Word.{Word}
use Rattle.bits.specs.definitions.Words.{word_of, word_at, half_of, row_of}
use Rattle.bits.proofs.Xor.{xor_assoc, xor_four}
use Rattle.bits.proofs.Sums.{sum_at, sums_linear}
use Rattle.bits.proofs.Table.{and_left, and_right}
use Rattle.bits.proofs.Tabulate.{is_tabulate}
use Rattle.bits.proofs.Filling.{filling_rest}
use Rattle.bits.proofs.Words.{Rewriting, row_rest, row_step}
use Rattle.bch.specs.definitions.Code.{step_of, feed_of, remainder}
use Rattle.bch.specs.private.Folded.{FoldedBy, FoldedWords, UppersWithin}
use Rattle.bch.proofs.Remainder.{feed_lt, feed_xor, feed_append, feed_low, feed_zeros, feed_swap, feed_one, remainder_lt, remainder_xor}
use Rattle.bch.proofs.Remainder.{remainder_zero, remainder_own, remainder_byte, remainder_lead, remainder_cut, remainder_above}

-- ---- a power of x with the remainder of a sum of powers

-- the remainder r times the sum of the powers of x whose exponents are es
unfoldable product : List ℕ → ℕ → ℕ
product [] r = 0
product (e ∷ es) r = bit_xor (feed_of r e 0) (product es r)

product_lt : (es : List ℕ) (r : ℕ) → r < 65536 → product es r < 65536
unfolding product
product_lt [] r h = lit< tt
product_lt (e ∷ es) r h = xor_lt 16 (feed_of r e 0) (product es r) (feed_lt r e 0 h) (product_lt es r h)

product_zero : (es : List ℕ) → product es 0 ≡ 0
unfolding product
product_zero [] = refl
product_zero (e ∷ es) = ap₂ bit_xor (remainder_zero e) (product_zero es)

-- it is linear, and zeros may be fed before or after
product_xor : (es : List ℕ) (r s : ℕ) → r < 65536 → s < 65536 → product es (bit_xor r s) ≡ bit_xor (product es r) (product es s)
unfolding product
product_xor [] r s hr hs = refl
product_xor (e ∷ es) r s hr hs =
    ap₂ bit_xor (feed_xor r s e 0 0 hr hs) (product_xor es r s hr hs) ∙ xor_four (feed_of r e 0) (feed_of s e 0) (product es r) (product es s)

product_feed : (es : List ℕ) (r i : ℕ) → r < 65536 → feed_of (product es r) i 0 ≡ product es (feed_of r i 0)
unfolding product
product_feed [] r i h = remainder_zero i
product_feed (e ∷ es) r i h =
    feed_xor (feed_of r e 0) (product es r) i 0 0 (feed_lt r e 0 h) (product_lt es r h) ∙ ap₂ bit_xor (feed_swap r e i) (product_feed es r i h)

-- so it is known from its value at 1
product_sums : (es : List ℕ) (r : ℕ) → r < 65536 → sum_at 16 (λ i. feed_of (product es 1) i 0) r ≡ product es r
product_sums es =
    sums_linear 16 (λ i. feed_of (product es 1) i 0) (product es) (product_zero es) (product_xor es)
    (λ i l. product_feed es 1 i (lit< tt) ∙ ap (product es) (feed_one i l))

-- and a power of x with the remainder of the sum may be put for it
product_power : (c : ℕ) (es : List ℕ) → feed_of 1 c 0 ≡ product es 1 → (r : ℕ) → r < 65536 → feed_of r c 0 ≡ product es r
unfolding product
product_power c es e r h =
    sym (xor_zero_r (feed_of r c 0)) ∙ sym (product_sums (c ∷ []) r h)
    ∙ ap (λ (p : ℕ). sum_at 16 (λ i. feed_of p i 0) r) (xor_zero_r (feed_of 1 c 0) ∙ e) ∙ product_sums es r h

-- ---- many bits at once

-- n bits times x^e, as the code shifts them
shifted : (m n e a : ℕ) → m ≤ 64 → n + e ≤ m → a < 2 ^ n → remainder m (a * 2 ^ e % 2 ^ 64) ≡ feed_of (remainder n a) e 0
shifted m n e a lm l h =
    let w : n + e + (m - (n + e)) ≡ m = omega arith in
    let z : a * 2 ^ e + 0 ≡ a * 2 ^ e = omega arith in
    ap (remainder m) (shl_exact n e 64 h (omega arith)) ∙ ap (λ (k : ℕ). remainder k (a * 2 ^ e)) (sym w)
    ∙ remainder_lead (m - (n + e)) (n + e) (a * 2 ^ e) (shl_lt n e h)
    ∙ sym (feed_append 0 n e a 0 (pow_pos e) ∙ ap (remainder (n + e)) z)

-- a added to v at each of the places es
abbrev pub added : ℕ → ℕ → List ℕ → ℕ
added v a [] = v
added v a (e ∷ es) = added (bit_xor v (a * 2 ^ e % 2 ^ 64)) a es

-- n bits at each of the places es stay below bit m
unfoldable fit : ℕ → ℕ → List ℕ → Bool
fit m n [] = true
fit m n (e ∷ es) = leb (n + e) m && fit m n es

added_remainder : (m n v a : ℕ) (es : List ℕ) → m ≤ 64 → T (fit m n es) → a < 2 ^ n
    → remainder m (added v a es) ≡ bit_xor (remainder m v) (product es (remainder n a))
unfolding fit product
added_remainder m n v a [] lm t h = sym (xor_zero_r (remainder m v))
added_remainder m n v a (e ∷ es) lm t h =
    let s : ℕ = a * 2 ^ e % 2 ^ 64 in
    let l : n + e ≤ m = leb→le (n + e) m (and_left (leb (n + e) m) (fit m n es) t) in
    added_remainder m n (bit_xor v s) a es lm (and_right (leb (n + e) m) (fit m n es) t) h
    ∙ ap (λ (x : ℕ). bit_xor x (product es (remainder n a)))
    (remainder_xor m v s ∙ ap (bit_xor (remainder m v)) (shifted m n e a lm l h))
    ∙ xor_assoc (remainder m v) (feed_of (remainder n a) e 0) (product es (remainder n a))

-- the n bits a of w from bit c on go, where x^c has the remainder of 1 and the powers es: v has the remainder of the bits below them, and is added to
fold : (m n c v w a : ℕ) (es : List ℕ) → m ≤ 64 → T (fit m n (0 ∷ es)) → feed_of 1 c 0 ≡ product (0 ∷ es) 1 → a ≡ w / 2 ^ c % 2 ^ n
    → remainder m v ≡ remainder c w → remainder m (added (bit_xor v a) a es) ≡ remainder (n + c) w
unfolding fit
fold m n c v w a es lm t e ea ev =
    let h : a < 2 ^ n = rw ea (mod-lt (w / 2 ^ c) (pow_pos n)) in
    let l : n + 0 ≤ m = leb→le (n + 0) m (and_left (leb (n + 0) m) (fit m n es) t) in
    let own : a * 2 ^ 0 % 2 ^ 64 ≡ a = shl_exact n 0 64 h (omega arith) ∙ mul-one a in
    ap (λ (x : ℕ). remainder m (added (bit_xor v x) a es)) (sym own) ∙ added_remainder m n v a (0 ∷ es) lm t h
    ∙ ap₂ bit_xor ev (sym (product_power c (0 ∷ es) e (remainder n a) (remainder_lt n a))
    ∙ ap (λ (x : ℕ). feed_of x c 0) (ap (remainder n) ea ∙ feed_low 0 n (w / 2 ^ c)))
    ∙ sym (remainder_cut n c w)

-- the exponents, besides 0, of the sums that have the remainders of x^48, x^64 and x^95
abbrev sum48 : List ℕ
sum48 = 2 ∷ 9 ∷ 15 ∷ 24 ∷ []

abbrev sum64 : List ℕ
sum64 = 6 ∷ 9 ∷ 20 ∷ 31 ∷ []

abbrev sum95 : List ℕ
sum95 = 1 ∷ 4 ∷ 26 ∷ 30 ∷ []

-- the 16 bits above 48
pub fold_top_law : (v : ℕ) → v < 2 ^ 64 → remainder 48 (added (bit_xor v (v / 2 ^ 48)) (v / 2 ^ 48) sum48) ≡ remainder 64 v
unfolding fit product feed_of step_of
fold_top_law v h = fold 48 16 48 v v (v / 2 ^ 48) sum48 (lit≤ tt) tt refl (sym (shr_mod 16 48 h)) refl

-- the 31 bits above 64, and the 31 above those
pub fold_upper_law : (hi lo a b : ℕ) → lo < 2 ^ 64 → a ≡ hi % 2 ^ 31 → b ≡ hi % 2 ^ 62 / 2 ^ 31
    → remainder 64 (added (bit_xor (added (bit_xor lo a) a sum64) b) b sum95) ≡ remainder 126 (word_of hi lo)
unfolding word_of fit product feed_of step_of
fold_upper_law hi lo a b h ea eb =
    fold 64 31 95 (added (bit_xor lo a) a sum64) w b sum95 (lit≤ tt) tt refl top (fold 64 31 64 lo w a sum64 (lit≤ tt) tt refl middle below)
  where
    w : ℕ
    w = word_of hi lo

    upper : w / 2 ^ 64 ≡ hi % 2 ^ 62
    upper = high (hi % 2 ^ 62) 64 h

    top : b ≡ w / 2 ^ 95 % 2 ^ 31
    top =
        eb ∙ sym (shr_mod 31 31 (mod-lt hi (lit< tt))) ∙ ap (λ (x : ℕ). x / 2 ^ 31 % 2 ^ 31) (sym upper)
        ∙ ap (λ (x : ℕ). x % 2 ^ 31) (shr-shr w 64 31)

    middle : a ≡ w / 2 ^ 64 % 2 ^ 31
    middle = ea ∙ sym (mod-mod-pow hi 31 31) ∙ ap (λ (x : ℕ). x % 2 ^ 31) (sym upper)

    below : remainder 64 lo ≡ remainder 64 w
    below = ap (remainder 64) (sym (low (hi % 2 ^ 62) 64 h)) ∙ feed_low 0 64 w

-- ---- a byte, by the table

pub fold_byte_law : (n v r : ℕ) → n ≤ 24 → r ≡ remainder 24 (v / 2 ^ (16 + n) % 256 * 2 ^ 16) → r < 65536
    → remainder (16 + n) (bit_xor v (r * 2 ^ n % 2 ^ 64)) ≡ remainder (24 + n) v
fold_byte_law n v r l e h =
    let k : 8 + (16 + n) ≡ 24 + n = omega arith in
    remainder_xor (16 + n) v (r * 2 ^ n % 2 ^ 64)
    ∙ ap (bit_xor (remainder (16 + n) v))
    (shifted (16 + n) 16 n r (omega arith) (omega arith) h
    ∙ ap (λ (x : ℕ). feed_of x n 0) (remainder_own r h ∙ e ∙ remainder_byte (v / 2 ^ (16 + n) % 256) (mod-lt (v / 2 ^ (16 + n)) (lit< tt)))
    ∙ feed_zeros (v / 2 ^ (16 + n) % 256) 16 n)
    ∙ sym (remainder_above 8 (16 + n) v (lit≤ tt)) ∙ ap (λ (m : ℕ). remainder m v) k

-- ---- the words of a row

-- what folds a word leaves its remainder
pub folded_words : (m : ℕ) {words folds : List ℕ} {P : Word → ℕ → Type 0} → FoldedBy P 384 words folds
    → ((w : Word) (v : ℕ) → P w v → remainder m v ≡ remainder 126 (word_of w.hi w.lo)) → FoldedWords m words folds
folded_words m {words} {folds} F h = record {
  fold = λ i l. let w = F.fold i l in h w.0 (get_or folds i 0) w.2 ∙ ap (remainder 126) w.1;
}

-- where a loop over words begins, and a step that stores what word i is folded into
pub folded_start : (P : Word → ℕ → Type 0) (words folds : List ℕ) → FoldedBy P 0 words folds
folded_start P words folds = record { fold = λ k h. absurd (not-suc-le-zero h) }

pub folded_step : {P : Word → ℕ → Type 0} {i : ℕ} {words folds : List ℕ} (w : Word) (v : ℕ) → FoldedBy P i words folds → i < length folds
    → word_of w.hi w.lo ≡ word_at words i → P w v → FoldedBy P (i + 1) words (set folds i v)
folded_step {P} {i} {words} {folds} w v F l e p = record { fold = below_more at i (λ k h. kept k h) here }
  where
    at : ℕ → Type 0
    at k = (x : Word) × (word_of x.hi x.lo ≡ word_at words k) × P x (get_or (set folds i v) k 0)

    kept : (k : ℕ) → k < i → at k
    kept k h = let ne : k ≢ i = omega arith in let x = F.fold k h in (x.0, x.1, rw (get_or-set_other folds i k v 0 ne) x.2)

    here : at i
    here = (w, e, rw (get_or-set_same folds i v 0 l) p)

-- the upper number of word i is stored without what stands above the word
trimmed_word : {s₀ s : List ℕ} (i : ℕ) → Rewriting (word_at s₀) 384 s₀ s i → i < 384 → get_or s₀ (2 * i + 1) 0 < 2 ^ 64
    → Rewriting (word_at s₀) 384 s₀ (set s (2 * i) (get_or s (2 * i) 0 % 2 ^ 62)) (i + 1)
unfolding word_of
trimmed_word {s₀} {s} i R h l₀ =
    let u : ℕ = get_or s (2 * i) 0 % 2 ^ 62 in
    let lo : ℕ = get_or s (2 * i + 1) 0 in
    let l : lo < 2 ^ 64 = rw (filling_rest (half_of (word_at s₀)) (2 * i + 1) 0 R.numbers (omega arith)) l₀ in
    let kept : set (set s (2 * i) u) (2 * i + 1) lo ≡ set s (2 * i) u =
    ap (set (set s (2 * i) u) (2 * i + 1)) (sym (get_or-set_other s (2 * i) (2 * i + 1) u 0 (omega arith))) ∙ set-get_or (set s (2 * i) u) (2 * i + 1) 0 in
    subst (λ (t : List ℕ). Rewriting (word_at s₀) 384 s₀ t (i + 1)) kept
    (row_step (word_at s₀) R u lo h (sym (high u 64 l) ∙ ap (λ (w : ℕ). w / 2 ^ 64) (row_rest (word_at s₀) R))
    (sym (low u 64 l) ∙ ap (λ (w : ℕ). w % 2 ^ 64) (row_rest (word_at s₀) R)))

-- a step of the loop that goes from one upper number to the next
pub trimmed_step : {s₀ s : List ℕ} {i : ℕ} → i % 2 ≡ 0 → Rewriting (word_at s₀) 384 s₀ s (i / 2) → i < 768 → get_or s₀ (i + 1) 0 < 2 ^ 64
    → Rewriting (word_at s₀) 384 s₀ (set s i (get_or s i 0 % 2 ^ 62)) ((i + 2) / 2)
trimmed_step {s₀} {s} {i} even R h l₀ =
    let e : 2 * (i / 2) ≡ i = omega (arith, even) in
    let n : i / 2 + 1 ≡ (i + 2) / 2 = omega arith in
    rw (sym n)
    (subst (λ (k : ℕ). Rewriting (word_at s₀) 384 s₀ (set s k (get_or s k 0 % 2 ^ 62)) (i / 2 + 1)) e (trimmed_word (i / 2) R (omega arith) (rw e l₀)))

-- a row above whose words nothing stands is the row of its words
pub row_own : (s : List ℕ) {top : ℕ} → UppersWithin s top → top < 2 ^ 62 → length s ≡ 768 → s ≡ row_of 384 (word_at s)
unfolding half_of word_at word_of
row_own s U small long = is_tabulate 0 s 768 (half_of (word_at s)) long (λ j h. at j (ℕ_discrete (j % 2) 0) h)
  where
    upper : (i : ℕ) → i < 384 → get_or s (2 * i) 0 % 2 ^ 62 ≡ get_or s (2 * i) 0
    upper i h = mod-eq_of_lt (lt_of_le_of_lt (U.within i h) small)

    at : (j : ℕ) → Dec (j % 2 ≡ 0) → j < 768 → get_or s j 0 ≡ half_of (word_at s) j
    at j (yes q) h =
        let i : ℕ = j / 2 in
        let e : j ≡ 2 * i = omega arith in
        rw q (ap (λ (k : ℕ). get_or s k 0) e ∙ sym (upper i (omega arith)) ∙ sym (high (get_or s (2 * i) 0 % 2 ^ 62) 64 (U.number (2 * i + 1))))
    at j (no ne) h =
        let i : ℕ = j / 2 in
        let e : j ≡ 2 * i + 1 = omega arith in
        let q : j % 2 ≡ 1 = omega arith in
        rw q (ap (λ (k : ℕ). get_or s k 0) e ∙ sym (low (get_or s (2 * i) 0 % 2 ^ 62) 64 (U.number (2 * i + 1))))
