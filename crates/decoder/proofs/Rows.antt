-- Rows of words: those that are mended word by word, of which code words stay as they are, and a frame's.
-- Assumes nothing.
use mathlib.Core.Path.{◌≡◌, refl, sym, ap, ap₂, ◌∙◌, subst}
use mathlib.Core.Logic.{inl}
use mathlib.Core.List.{List, [], ◌∷◌}
use Prim.Native.Nat.{ℕ, zero, suc, ◌+◌, ◌-◌, ◌*◌, ◌/◌, ◌%◌, ◌^◌, ◌<◌, ◌≤◌}
use native.Mathlib.Nat.{le_refl, div-add-mod', not-suc-le-zero, le_of_suc-le-suc}
use native.Mathlib.Omega.{arith}
use lib.Arith.{digits_div, digits_mod}
use lib.ListN.{length, get_or, set, take, drop, replicate, get_or-eq_default}
use lib.Seq.{get_or-take, get_or-drop}
use native.Mathlib.Decide.{dec_lt}
use lib.Bits.{bit_or}
use Rattle.std.specs.Prelude.{fold}
use Rattle.std.proofs.lemmas.List.{get_or-replicate, length-replicate, set-get_or}
use Rattle.bits.specs.definitions.Bits.{tabulate}
use Rattle.bits.specs.definitions.Words.{word_at, half_of, row_of}
use Rattle.bits.proofs.Filling.{Filling, filling_start, filling_step, filling_rest, filling_done}
use Rattle.bits.proofs.Tabulate.{get_d_tabulate, tabulate_cong}
use Rattle.bits.proofs.Words.{Rewriting, row_start, row_step, row_done, row_cong}
use Rattle.bits.proofs.Xor.{or_within}
use Rattle.bch.specs.definitions.Code.{remainder}
use Rattle.decoder.specs.definitions.Mend.{mend, mended, flag_of}
use Rattle.decoder.specs.definitions.Word.{mended_frame, flags_of}
use Rattle.decoder.specs.private.Answer.{Pattern, remainder_of, Answers, HasRemainders, MendedAt, plain_at, passed, flag_at, mended_row, flags_row}
use Rattle.decoder.specs.declared.Mend.TheVariants.{Clean}
use Rattle.decoder.proofs.Patterns.{answers_unique, mend_answers}

-- where what has every bit of both is 0, both are
or_zero : (a b : ℕ) → bit_or a b ≡ 0 → (a ≡ 0) × (b ≡ 0)
or_zero a b e = (omega (arith, or_within a b), omega (arith, or_within a b))

-- what has every bit of some numbers is 0 only where each of them is
pub joined_zero : (a : ℕ) (xs : List ℕ) → fold bit_or a xs ≡ 0 → (a ≡ 0) × ((i : ℕ) → i < length xs → get_or xs i 0 ≡ 0)
joined_zero a [] e = (e, λ i h. absurd (not-suc-le-zero h))
joined_zero a (x ∷ xs) e =
    let rest = joined_zero (bit_or a x) xs e in
    let both = or_zero a x rest.0 in
    (both.0, at both.1 rest.1)
  where
    at : x ≡ 0 → ((i : ℕ) → i < length xs → get_or xs i 0 ≡ 0) → (i : ℕ) → i < suc (length xs) → get_or (x ∷ xs) i 0 ≡ 0
    at e f zero h = e
    at e f (suc i) h = f i (le_of_suc-le-suc h)

-- and there it is 0
pub zeros_joined : (xs : List ℕ) → ((i : ℕ) → i < length xs → get_or xs i 0 ≡ 0) → fold bit_or 0 xs ≡ 0
zeros_joined [] h = refl
zeros_joined (x ∷ xs) h = ap (λ (n : ℕ). fold bit_or (bit_or 0 n) xs) (h 0 (omega arith)) ∙ zeros_joined xs (λ i l. h (suc i) (omega arith))

-- what zeros have at i
pub zeros_at : (n : ℕ) {xs : List ℕ} → xs ≡ replicate n 0 → (i : ℕ) → get_or xs i 0 ≡ 0
zeros_at n {xs} e i = ap (λ (l : List ℕ). get_or l i 0) e ∙ go (dec_lt i n)
  where
    zeros : List ℕ
    zeros = replicate n 0

    go : Dec (i < n) → get_or zeros i 0 ≡ 0
    go (yes h) = get_or-replicate n i 0 0 h
    go (no h) = get_or-eq_default zeros 0 (omega (arith, length-replicate {A = ℕ} n 0))

-- what a part has at j
pub part_at : (xs : List ℕ) (a b j : ℕ) → a + j < b → get_or (take (b - a) (drop a xs)) j 0 ≡ get_or xs (a + j) 0
part_at xs a b j h = get_or-take (b - a) (drop a xs) j 0 (omega arith) ∙ get_or-drop a xs j 0

-- a word that is not reached yet
plain_rest : (f : ℕ → ℕ) {n : ℕ} {s₀ s : List ℕ} {i : ℕ} → Rewriting f n s₀ s i → (k : ℕ) → i ≤ k → plain_at s k ≡ plain_at s₀ k
unfolding plain_at
plain_rest f R k h =
    ap₂ (λ (x y : ℕ). x * 2 ^ 64 + y) (filling_rest (half_of f) (2 * k) 0 R.numbers (omega arith))
    (filling_rest (half_of f) (2 * k + 1) 0 R.numbers (omega arith))

-- a row of words has those words
row_plain : (n : ℕ) (f : ℕ → ℕ) (i : ℕ) → i < n → plain_at (row_of n f) i ≡ f i
unfolding plain_at half_of
row_plain n f i h =
    let a : 2 * i % 2 ≡ 0 = omega arith in
    let b : 2 * i / 2 ≡ i = omega arith in
    let c : (2 * i + 1) % 2 ≡ 1 = omega arith in
    let d : (2 * i + 1) / 2 ≡ i = omega arith in
    ap₂ (λ (x y : ℕ). x * 2 ^ 64 + y) (get_d_tabulate (2 * n) (half_of f) (2 * i) 0 (omega arith) ∙ rw (a, b))
    (get_d_tabulate (2 * n) (half_of f) (2 * i + 1) 0 (omega arith) ∙ rw (c, d))
    ∙ div-add-mod' (f i) (2 ^ 64)

-- ---- code words

mend_clean : (w : ℕ) → remainder 126 w ≡ 0 → mend w ≡ Clean
unfolding Pattern remainder_of
mend_clean w e = answers_unique 0 (mend w) Clean (subst (λ (s : ℕ). Answers s (mend w)) e (mend_answers w)) (inl (tt, refl))

-- a code word and its flag 0 stay as they are
clean_stays : (i : ℕ) (s flags : List ℕ) → remainder 126 (plain_at s i) ≡ 0 → get_or s (2 * i + 1) 0 < 2 ^ 64 → get_or flags i 0 ≡ 0
    → MendedAt i s flags s flags
unfolding plain_at mended flag_of
clean_stays i s flags e fits f =
    let clean : mend (plain_at s i) ≡ Clean = mend_clean (plain_at s i) e in
    let word : passed s i ≡ plain_at s i = ap (mended (plain_at s i)) clean in
    let upper : passed s i / 2 ^ 64 ≡ get_or s (2 * i) 0 = ap (λ (w : ℕ). w / 2 ^ 64) word ∙ digits_div (get_or s (2 * i) 0) fits in
    let lower : passed s i % 2 ^ 64 ≡ get_or s (2 * i + 1) 0 = ap (λ (w : ℕ). w % 2 ^ 64) word ∙ digits_mod (get_or s (2 * i) 0) fits in
    record {
      word =
          sym
          (ap₂ (λ (x y : ℕ). set (set s (2 * i) x) (2 * i + 1) y) upper lower
          ∙ ap (λ (l : List ℕ). set l (2 * i + 1) (get_or s (2 * i + 1) 0)) (set-get_or s (2 * i) 0)
          ∙ set-get_or s (2 * i + 1) 0);
      flag = sym (ap (set flags i) (ap flag_of clean ∙ sym f) ∙ set-get_or flags i 0);
    }

-- ---- words that are mended from the first on: how it starts, what the next word has, a word more, and the end

-- the first i of the n words of s are mended, and have their flags
pub record Mending (n : ℕ) (s flags₀ words flags : List ℕ) (i : ℕ) : Type 0 where
  pub row : Rewriting (passed s) n s words i
  pub filled : Filling (flag_at s) n flags₀ flags i

pub mending_start : {n : ℕ} {s flags : List ℕ} → length s ≡ 2 * n → length flags ≡ n → Mending n s flags s flags 0
mending_start {n} {s} {flags} a b = record { row = row_start (passed s) a; filled = filling_start (flag_at s) b }

module _ {n : ℕ} {s flags₀ words flags : List ℕ} {i : ℕ} (M : Mending n s flags₀ words flags i) where
  -- nothing grows or shrinks
  pub mending_long : (length words ≡ length s) × (length flags ≡ length flags₀)
  mending_long =
      let r = M.row.numbers in
      let f = M.filled in
      (r.long ∙ sym r.long₀, f.long ∙ sym f.long₀)

  -- the next word is as it was, so its remainder is
  pub mending_rest : {rest : List ℕ} → HasRemainders n s rest → i < n → get_or rest i 0 ≡ remainder 126 (plain_at words i)
  mending_rest H h = H.remains i h ∙ ap (remainder 126) (sym (plain_rest (passed s) M.row i (le_refl i)))

  pub mending_step : {words' flags' : List ℕ} → MendedAt i words flags words' flags' → i < n → Mending n s flags₀ words' flags' (i + 1)
  mending_step D h =
      let e = plain_rest (passed s) M.row i (le_refl i) in
      record {
        row =
            subst (λ (l : List ℕ). Rewriting (passed s) n s l (i + 1)) (sym D.word)
            (row_step (passed s) M.row _ _ h (ap (λ (w : ℕ). mended w (mend w) / 2 ^ 64) e) (ap (λ (w : ℕ). mended w (mend w) % 2 ^ 64) e));
        filled =
            subst (λ (l : List ℕ). Filling (flag_at s) n flags₀ l (i + 1)) (sym D.flag)
            (filling_step (flag_at s) _ M.filled h (ap (λ (w : ℕ). flag_of (mend w)) e));
      }

  -- a code word that was flagged 0 before counts as mended
  mending_stays : {rest : List ℕ} → HasRemainders n s rest → ((j : ℕ) → get_or s j 0 < 2 ^ 64) → get_or flags₀ i 0 ≡ 0 → i < n → get_or rest i 0 ≡ 0
      → Mending n s flags₀ words flags (i + 1)
  mending_stays H fits f h z =
      let kept : get_or words (2 * i + 1) 0 ≡ get_or s (2 * i + 1) 0 = filling_rest (half_of (passed s)) (2 * i + 1) 0 M.row.numbers (omega arith) in
      mending_step
      (clean_stays i words flags (sym (mending_rest H h) ∙ z) (subst (λ (x : ℕ). x < 2 ^ 64) (sym kept) (fits (2 * i + 1)))
      (filling_rest (flag_at s) i 0 M.filled (le_refl i) ∙ f))
      h

  pub mending_done : n ≤ i → (words ≡ mended_row n s) × (flags ≡ flags_row n s)
  mending_done h = (row_done (passed s) M.row h, filling_done (flag_at s) M.filled h)

-- and so do k of them
pub mending_clean : {n : ℕ} {s flags₀ words flags rest : List ℕ} {i : ℕ} → Mending n s flags₀ words flags i → HasRemainders n s rest
    → ((j : ℕ) → get_or s j 0 < 2 ^ 64) → ((j : ℕ) → get_or flags₀ j 0 ≡ 0) → (k : ℕ) → i + k ≤ n → ((j : ℕ) → j < k → get_or rest (i + j) 0 ≡ 0)
    → Mending n s flags₀ words flags (i + k)
mending_clean {n} {s} {flags₀} {words} {flags} {rest} {i} M H fits zeros zero le z =
    let same : i ≡ i + 0 = omega arith in
    subst (Mending n s flags₀ words flags) same M
mending_clean {n} {s} {flags₀} {words} {flags} {rest} {i} M H fits zeros (suc k) le z =
    let next : i + k + 1 ≡ i + suc k = omega arith in
    subst (Mending n s flags₀ words flags) next
    (mending_stays (mending_clean M H fits zeros k (omega arith) (λ j h. z j (omega arith))) H fits (zeros (i + k)) (omega arith) (z k (omega arith)))

-- ---- a frame's words, above which nothing stands any more

module _ (s : List ℕ) {words rest : List ℕ} (W : words ≡ row_of 384 (word_at s)) (E : rest ≡ tabulate 384 (λ i. remainder 126 (word_at s i))) where
  same_word : (i : ℕ) → i < 384 → plain_at words i ≡ word_at s i
  same_word i h = ap (λ (l : List ℕ). plain_at l i) W ∙ row_plain 384 (word_at s) i h

  pub frame_remainders : HasRemainders 384 words rest
  frame_remainders =
      record {
        remains = λ i h.
            ap (λ (l : List ℕ). get_or l i 0) E ∙ get_d_tabulate 384 (λ i. remainder 126 (word_at s i)) i 0 h ∙ ap (remainder 126) (sym (same_word i h));
      }

  pub frame_mended : (mended_row 384 words ≡ mended_frame s) × (flags_row 384 words ≡ flags_of s)
  unfolding mended_frame flags_of
  frame_mended = (
    row_cong 384 (passed words) (λ i. mended (word_at s i) (mend (word_at s i))) (λ i h. ap (λ (w : ℕ). mended w (mend w)) (same_word i h)),
    tabulate_cong 384 (flag_at words) (λ i. flag_of (mend (word_at s i))) (λ i h. ap (λ (w : ℕ). flag_of (mend w)) (same_word i h)),
  )
