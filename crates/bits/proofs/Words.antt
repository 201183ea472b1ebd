-- Rows of words, two numbers a word: a row's words, and the loop that rewrites a row word by word. `Rewriting` is its invariant; `row_start`, `row_rest`,
-- `row_step` and `row_done` answer where it begins, what it reads, a step and the end.
-- Assumes nothing.
use mathlib.Core.Path.{◌≡◌, sym, ap, ap₂, ◌∙◌, subst}
use mathlib.Core.Bool.{cond}
use mathlib.Core.List.{List}
use Prim.Native.Nat.{ℕ, ◌+◌, ◌*◌, ◌/◌, ◌%◌, ◌^◌, ◌≤◌, ◌<◌}
use native.Mathlib.Nat.{mod-lt, mod-eq_of_lt, div-add-mod'}
use native.Mathlib.Omega.{arith}
use lib.ListN.{length, get_or, set}
use lib.Arith.{digits_lt}
use lib.Dec.{eqb, lit<}
use lib.Pow.{shr_lt}
use Rattle.bits.specs.definitions.Words.{word_of, word_at, half_of, row_of}
use Rattle.bits.proofs.Tabulate.{get_d_tabulate, tabulate_cong}
use Rattle.bits.proofs.Filling.{Filling, filling_start, filling_step, filling_rest, filling_done}

half_upper : (f : ℕ → ℕ) (i : ℕ) → f i / 2 ^ 64 ≡ half_of f (2 * i)
unfolding half_of
half_upper f i =
    let e : 2 * i % 2 ≡ 0 = omega arith in
    let d : 2 * i / 2 ≡ i = omega arith in
    rw (e, d)

half_lower : (f : ℕ → ℕ) (i : ℕ) → f i % 2 ^ 64 ≡ half_of f (2 * i + 1)
unfolding half_of
half_lower f i =
    let e : (2 * i + 1) % 2 ≡ 1 = omega arith in
    let d : (2 * i + 1) / 2 ≡ i = omega arith in
    rw (e, d)

-- any two numbers are a word, and a word is its two numbers
pub word_lt : (hi lo : ℕ) → lo < 2 ^ 64 → word_of hi lo < 2 ^ 126
unfolding word_of
word_lt hi lo h = digits_lt (mod-lt hi (lit< tt)) h

pub word_join : (w : ℕ) → w < 2 ^ 126 → word_of (w / 2 ^ 64) (w % 2 ^ 64) ≡ w
unfolding word_of
word_join w h = ap (λ (x : ℕ). x * 2 ^ 64 + w % 2 ^ 64) (mod-eq_of_lt (shr_lt 62 64 h)) ∙ div-add-mod' w (2 ^ 64)

-- the row of the words f has the words f
pub row_at_lem : (n : ℕ) (f : ℕ → ℕ) (i : ℕ) → i < n → f i < 2 ^ 126 → word_at (row_of n f) i ≡ f i
unfolding word_at
row_at_lem n f i h l =
    ap₂ word_of (get_d_tabulate (2 * n) (half_of f) (2 * i) 0 (omega arith) ∙ sym (half_upper f i))
    (get_d_tabulate (2 * n) (half_of f) (2 * i + 1) 0 (omega arith) ∙ sym (half_lower f i))
    ∙ word_join (f i) l

-- rows of the same words are the same
pub row_cong : (n : ℕ) (f g : ℕ → ℕ) → ((i : ℕ) → i < n → f i ≡ g i) → row_of n f ≡ row_of n g
unfolding half_of
row_cong n f g h =
    tabulate_cong (2 * n) (half_of f) (half_of g)
    (λ j l. ap (λ (v : ℕ). cond (eqb (j % 2) 0) (v / 2 ^ 64) (v % 2 ^ 64)) (h (j / 2) (omega arith)))

-- ---- a loop over a row's words, `while i < n { let at = 2 * i; .. s[at] = hi; s[at + 1] = lo; i += 1 }`: the measure is n - i

-- the first i of the n words of s are f 0, .., f (i - 1), and the others are as they were in s₀
pub record Rewriting (f : ℕ → ℕ) (n : ℕ) (s₀ s : List ℕ) (i : ℕ) : Type 0 where
  pub numbers : Filling (half_of f) (2 * n) s₀ s (2 * i)

module _ (f : ℕ → ℕ) {n : ℕ} {s₀ : List ℕ} where
  pub row_start : length s₀ ≡ 2 * n → Rewriting f n s₀ s₀ 0
  row_start e = record { numbers = filling_start (half_of f) e }

  module _ {s : List ℕ} {i : ℕ} (R : Rewriting f n s₀ s i) where
    -- a word that is not reached yet
    pub row_rest : word_of (get_or s (2 * i) 0) (get_or s (2 * i + 1) 0) ≡ word_at s₀ i
    unfolding word_at
    row_rest = ap₂ word_of (filling_rest (half_of f) (2 * i) 0 R.numbers (omega arith)) (filling_rest (half_of f) (2 * i + 1) 0 R.numbers (omega arith))

    -- a step that stores word i
    pub row_step : (x y : ℕ) → i < n → x ≡ f i / 2 ^ 64 → y ≡ f i % 2 ^ 64 → Rewriting f n s₀ (set (set s (2 * i) x) (2 * i + 1) y) (i + 1)
    row_step x y h ex ey =
        let next : 2 * i + 1 + 1 ≡ 2 * (i + 1) = omega arith in
        record {
          numbers =
              subst (Filling (half_of f) (2 * n) s₀ (set (set s (2 * i) x) (2 * i + 1) y)) next
              (filling_step (half_of f) y (filling_step (half_of f) x R.numbers (omega arith) (ex ∙ half_upper f i)) (omega arith) (ey ∙ half_lower f i));
        }

    pub row_done : n ≤ i → s ≡ row_of n f
    row_done h = filling_done (half_of f) R.numbers (omega arith)
