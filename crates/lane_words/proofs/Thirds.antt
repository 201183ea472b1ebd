-- From a frame's lanes to its words: the seven numbers of a third of a lane, the four words that they are, and the row in which the words are placed.
-- Assumes nothing.
use mathlib.Core.Path.{◌≡◌, sym, ap, ap₂, ◌∙◌, subst}
use mathlib.Core.Logic.{◌≢◌}
use mathlib.Core.Bool.{cond}
use mathlib.Core.List.{List}
use Prim.Native.Nat.{ℕ, ◌+◌, ◌-◌, ◌*◌, ◌/◌, ◌%◌, ◌^◌, ◌<◌}
use native.Mathlib.Decide.{ℕ_discrete}
use native.Mathlib.Omega.{arith}
use lib.Dec.{eqb, lit<}
use lib.ListN.{length, get_or, set, length-set}
use lib.Seq.{get_or-set_same, get_or-set_other}
use borrow.Author.Count.{below_none, below_more}
use Rattle.bits.specs.definitions.Bits.{tabulate, field_at, loaded_at}
use Rattle.bits.specs.definitions.Words.{half_of}
use Rattle.bits.proofs.Joins.{loaded_is}
use Rattle.bits.proofs.Tabulate.{get_d_tabulate, is_tabulate}
use Rattle.bits.proofs.Fields.{field_join, field_top, field_low}
use Rattle.lane_words.specs.definitions.LaneWords.{information_at, lane_words}
use Rattle.lane_words.specs.private.Thirds.{number_at, with_word, word_place, Placed}
use Rattle.lane_words.proofs.LaneWords.{field_middle, word_law, joined_fields}

-- ---- the seven numbers

-- number j of third t of lane p begins at bit b
pub number_is : (a : List ℕ) (p t j b : ℕ) → b ≡ 1320 * p + 440 * t + (64 * j - 8 * (j / 6)) → field_at a b 64 ≡ number_at a p t j
unfolding number_at
number_is a p t j b e = ap (λ (k : ℕ). field_at a k 64) e

-- what is read as one
abbrev pub ReadAt : List ℕ → ℕ → ℕ → List ℕ → ℕ → Type 0
ReadAt a p t ns j = get_or ns j 0 ≡ loaded_at a (165 * p + 55 * t + 8 * j - j / 6)

-- all seven
pub numbers_law : (a : List ℕ) (p t : ℕ) (ns : List ℕ) → length a ≡ 5280 → p < 32 → t < 3 → length ns ≡ 7
    → ReadAt a p t ns 0 → ReadAt a p t ns 1 → ReadAt a p t ns 2 → ReadAt a p t ns 3 → ReadAt a p t ns 4 → ReadAt a p t ns 5 → ReadAt a p t ns 6
    → ns ≡ tabulate 7 (number_at a p t)
numbers_law a p t ns la hp ht ln r₀ r₁ r₂ r₃ r₄ r₅ r₆ = is_tabulate 0 ns 7 (number_at a p t) ln at
  where
    read : (j : ℕ) → j < 7 → ReadAt a p t ns j
    read =
        let P : ℕ → Type 0 = ReadAt a p t ns in
        below_more P 6 (below_more P 5 (below_more P 4 (below_more P 3 (below_more P 2 (below_more P 1 (below_more P 0 (below_none P) r₀) r₁) r₂) r₃) r₄) r₅) r₆

    at : (j : ℕ) → j < 7 → get_or ns j 0 ≡ number_at a p t j
    at j h = read j h ∙ loaded_is a _ (omega arith) ∙ number_is a p t j _ (omega arith)

-- and each of them
pub number_of : (a : List ℕ) (p t : ℕ) {ns : List ℕ} → ns ≡ tabulate 7 (number_at a p t) → (j b : ℕ) → j < 7 → b ≡ 1320 * p + 440 * t + (64 * j - 8 * (j / 6))
    → get_or ns j 0 ≡ field_at a b 64
number_of a p t {ns} e j b h eb =
    ap (λ (s : List ℕ). get_or s j 0) e ∙ get_d_tabulate 7 (number_at a p t) j 0 h ∙ sym (number_is a p t j b eb)

-- ---- two numbers joined

-- what `joined` gives
abbrev pub join : ℕ → ℕ → ℕ → ℕ
join x y c = x % 2 ^ c * 2 ^ (64 - c) + y / 2 ^ c

-- 64 bits out of two fields of which the second begins 56 bits behind the first, and the second's last 48
module _ (a : List ℕ) (i b : ℕ) {z : ℕ} (ez : z ≡ field_at a (i + 56) 64) where
  joined_last : {x r : ℕ} → x ≡ field_at a i 64 → r ≡ join x (z * 2 ^ 8 % 2 ^ 64) 54 → i + 10 ≡ b → r ≡ field_at a b 64
  joined_last ex er eb =
      let first : z * 2 ^ 8 % 2 ^ 64 / 2 ^ 54 ≡ z / 2 ^ 46 % 2 ^ 10 = omega arith in
      let next : i + 56 + 8 ≡ i + 10 + 54 = omega arith in
      er
      ∙ ap₂ (λ (u v : ℕ). u * 2 ^ 10 + v) (ap (λ (v : ℕ). v % 2 ^ 54) ex ∙ field_low a i 10 54)
      (first ∙ ap (λ (v : ℕ). v / 2 ^ 46 % 2 ^ 10) ez ∙ field_middle a (i + 56) 8 10 46 ∙ ap (λ (k : ℕ). field_at a k 10) next)
      ∙ sym (field_join a (i + 10) 54 10) ∙ ap (λ (k : ℕ). field_at a k 64) eb

  low_last : i + 72 ≡ b → z * 2 ^ 16 % 2 ^ 64 / 65536 ≡ field_at a b 48
  low_last eb =
      let low : z * 2 ^ 16 % 2 ^ 64 / 65536 ≡ z % 2 ^ 48 = omega arith in
      let at : i + 56 + 16 ≡ b = omega arith in
      low ∙ ap (λ (v : ℕ). v % 2 ^ 48) ez ∙ field_low a (i + 56) 16 48 ∙ ap (λ (k : ℕ). field_at a k 48) at

-- the first 48 of 64 bits
top_48 : (a : List ℕ) (b : ℕ) {y : ℕ} → y ≡ field_at a b 64 → y / 65536 ≡ field_at a b 48
top_48 a b e = ap (λ (v : ℕ). v / 2 ^ 16) e ∙ field_top a b 48 16

-- ---- the row of words

module _ {a w : List ℕ} where
  -- as many, in other words
  pub placed_as : {n m : ℕ} → n ≡ m → Placed a n w → Placed a m w
  placed_as e P = subst (λ (k : ℕ). Placed a k w) e P

  -- one word more, which is word k of lane p
  pub placed_step : {n : ℕ} (k p x y : ℕ) → Placed a n w → n ≡ 12 * p + k → k < 12 → p < 32
      → x ≡ field_at a (110 * n) 64 → y / 65536 ≡ field_at a (110 * n + 62) 48 → Placed a (n + 1) (with_word w k p x y)
  placed_step {n} k p x y P en hk hp ex ey =
      record {
        long = length-set (set w m u) (m + 1) v ∙ length-set w m u ∙ P.long;
        upper = λ j l. top j (ℕ_discrete j n) l;
        lower = λ j l. low j (ℕ_discrete j n) l;
      }
    where
      m : ℕ
      m = 2 * word_place k p

      u : ℕ
      u = x / 4

      v : ℕ
      v = y / 65536 * 65536

      at : ℕ → ℕ
      at j = 2 * word_place (j % 12) (j / 12)

      here : at n ≡ m
      here = omega arith

      other : (j : ℕ) → j ≢ m → j ≢ m + 1 → get_or (with_word w k p x y) j 0 ≡ get_or w j 0
      other j b c = get_or-set_other (set w m u) (m + 1) j v 0 c ∙ get_or-set_other w m j u 0 b

      top : (j : ℕ) → Dec (j ≡ n) → j < n + 1 → get_or (with_word w k p x y) (at j) 0 ≡ field_at a (110 * j) 110 * 2 ^ 16 / 2 ^ 64
      top j (yes q) l =
          ap (λ (i : ℕ). get_or (with_word w k p x y) i 0) (ap at q ∙ here) ∙ get_or-set_other (set w m u) (m + 1) m v 0 (omega arith)
          ∙ get_or-set_same w m u 0 (omega (arith, P.long)) ∙ (word_law a (110 * n) y ex ey).0
          ∙ ap (λ (i : ℕ). field_at a (110 * i) 110 * 2 ^ 16 / 2 ^ 64) (sym q)
      top j (no ne) l = other (at j) (omega arith) (omega arith) ∙ P.upper j (omega arith)

      low : (j : ℕ) → Dec (j ≡ n) → j < n + 1 → get_or (with_word w k p x y) (at j + 1) 0 ≡ field_at a (110 * j) 110 * 2 ^ 16 % 2 ^ 64
      low j (yes q) l =
          ap (λ (i : ℕ). get_or (with_word w k p x y) (i + 1) 0) (ap at q ∙ here)
          ∙ get_or-set_same (set w m u) (m + 1) v 0 (omega (arith, P.long, length-set w m u)) ∙ (word_law a (110 * n) y ex ey).1
          ∙ ap (λ (i : ℕ). field_at a (110 * i) 110 * 2 ^ 16 % 2 ^ 64) (sym q)
      low j (no ne) l = other (at j + 1) (omega arith) (omega arith) ∙ P.lower j (omega arith)

  pub placed_done : Placed a 384 w → w ≡ lane_words a
  unfolding lane_words information_at half_of
  placed_done P = is_tabulate 0 w 768 _ P.long (λ i b. at i (ℕ_discrete (i % 2) 0) b)
    where
      word : ℕ → ℕ
      word i = field_at a (1320 * (i % 32) + 110 * (i / 32)) 110 * 2 ^ 16

      at : (i : ℕ) → Dec (i % 2 ≡ 0) → i < 768 → get_or w i 0 ≡ cond (eqb (i % 2) 0) (word (i / 2) / 2 ^ 64) (word (i / 2) % 2 ^ 64)
      at i (yes q) b =
          let j = 12 * (i / 2 % 32) + i / 2 / 32 in
          let e : i ≡ 2 * word_place (j % 12) (j / 12) = omega arith in
          let f : 110 * j ≡ 1320 * (i / 2 % 32) + 110 * (i / 2 / 32) = omega arith in
          rw q (ap (λ (k : ℕ). get_or w k 0) e ∙ P.upper j (omega arith) ∙ ap (λ (k : ℕ). field_at a k 110 * 2 ^ 16 / 2 ^ 64) f)
      at i (no ne) b =
          let j = 12 * (i / 2 % 32) + i / 2 / 32 in
          let e : i ≡ 2 * word_place (j % 12) (j / 12) + 1 = omega arith in
          let f : 110 * j ≡ 1320 * (i / 2 % 32) + 110 * (i / 2 / 32) = omega arith in
          let q : i % 2 ≡ 1 = omega arith in
          rw q (ap (λ (k : ℕ). get_or w k 0) e ∙ P.lower j (omega arith) ∙ ap (λ (k : ℕ). field_at a k 110 * 2 ^ 16 % 2 ^ 64) f)

-- ---- the words of a third

-- the four words of a third, whose numbers are ns
pub split_law : (a : List ℕ) (p t : ℕ) {ns w₀ w₁ w₂ w₃ w : List ℕ} {y₀ x₁ y₁ x₂ y₂ x₃ : ℕ} → p < 32 → t < 3 → ns ≡ tabulate 7 (number_at a p t)
    → let n : ℕ → ℕ = λ j. get_or ns j 0 in
    y₀ ≡ join (n 0) (n 1) 2 → w₁ ≡ with_word w₀ (4 * t + 0) p (n 0) y₀
    → x₁ ≡ join (n 1) (n 2) 18 → y₁ ≡ join (n 2) (n 3) 20 → w₂ ≡ with_word w₁ (4 * t + 1) p x₁ y₁
    → x₂ ≡ join (n 3) (n 4) 36 → y₂ ≡ join (n 4) (n 5) 38 → w₃ ≡ with_word w₂ (4 * t + 2) p x₂ y₂
    → x₃ ≡ join (n 5) (n 6 * 2 ^ 8 % 2 ^ 64) 54 → w ≡ with_word w₃ (4 * t + 3) p x₃ (n 6 * 2 ^ 16 % 2 ^ 64)
    → Placed a (12 * p + 4 * t) w₀ → Placed a (12 * p + 4 * t + 4) w
split_law a p t {ns} {w₀} {w₁} {w₂} {w₃} {w} hp ht e a₀ s₀ a₁ b₁ s₁ a₂ b₂ s₂ a₃ s₃ P₀ =
    let m = 12 * p + 4 * t in
    let b = 110 * m in
    let f₀ = number_of a p t e 0 b (lit< tt) (omega arith) in
    let f₁ = number_of a p t e 1 (b + 64) (lit< tt) (omega arith) in
    let f₂ = number_of a p t e 2 (b + 64 + 64) (lit< tt) (omega arith) in
    let f₃ = number_of a p t e 3 (b + 64 + 64 + 64) (lit< tt) (omega arith) in
    let f₄ = number_of a p t e 4 (b + 64 + 64 + 64 + 64) (lit< tt) (omega arith) in
    let f₅ = number_of a p t e 5 (b + 64 + 64 + 64 + 64 + 64) (lit< tt) (omega arith) in
    let f₆ = number_of a p t e 6 (b + 64 + 64 + 64 + 64 + 64 + 56) (lit< tt) (omega arith) in
    let P₁ =
    placed_step (4 * t + 0) p _ _ P₀ (omega arith) (omega arith) hp f₀
    (top_48 a (110 * m + 62) (joined_fields a b 2 (110 * m + 62) (omega arith) f₀ f₁ a₀ (omega arith))) in
    let P₂ =
    placed_step (4 * t + 1) p _ _ (subst (Placed a (m + 1)) (sym s₀) P₁) (omega arith) (omega arith) hp
    (joined_fields a (b + 64) 18 (110 * (m + 1)) (omega arith) f₁ f₂ a₁ (omega arith))
    (top_48 a (110 * (m + 1) + 62) (joined_fields a (b + 64 + 64) 20 (110 * (m + 1) + 62) (omega arith) f₂ f₃ b₁ (omega arith))) in
    let P₃ =
    placed_step (4 * t + 2) p _ _ (subst (Placed a (m + 1 + 1)) (sym s₁) P₂) (omega arith) (omega arith) hp
    (joined_fields a (b + 64 + 64 + 64) 36 (110 * (m + 1 + 1)) (omega arith) f₃ f₄ a₂ (omega arith))
    (top_48 a (110 * (m + 1 + 1) + 62) (joined_fields a (b + 64 + 64 + 64 + 64) 38 (110 * (m + 1 + 1) + 62) (omega arith) f₄ f₅ b₂ (omega arith))) in
    let P₄ =
    placed_step (4 * t + 3) p _ _ (subst (Placed a (m + 1 + 1 + 1)) (sym s₂) P₃) (omega arith) (omega arith) hp
    (joined_last a (b + 64 + 64 + 64 + 64 + 64) (110 * (m + 1 + 1 + 1)) f₆ f₅ a₃ (omega arith))
    (low_last a (b + 64 + 64 + 64 + 64 + 64) (110 * (m + 1 + 1 + 1) + 62) f₆ (omega arith)) in
    placed_as (omega arith) (subst (Placed a (m + 1 + 1 + 1 + 1)) (sym s₃) P₄)
