-- From a frame's words to its lanes: the seven numbers of a third of a lane out of its four words, and the third's bytes out of the numbers.
-- Assumes nothing.
use mathlib.Core.Path.{◌≡◌, refl, sym, ap, ap₂, ◌∙◌, subst}
use mathlib.Core.List.{List, [], ◌∷◌}
use Prim.Native.Nat.{ℕ, ◌+◌, ◌-◌, ◌*◌, ◌/◌, ◌%◌, ◌^◌, ◌≤◌, ◌<◌}
use native.Mathlib.Decide.{dec_lt}
use native.Mathlib.Omega.{arith}
use lib.Dec.{lit<}
use lib.Pow.{shr-shr}
use lib.ListN.{get_or}
use Rattle.bits.specs.definitions.Bits.{tabulate, field_at, AllBytes}
use Rattle.bits.specs.definitions.Words.{word_of}
use Rattle.bits.specs.definitions.Put.{Put}
use Rattle.bits.proofs.Tabulate.{is_tabulate}
use Rattle.bits.proofs.Fields.{field_join, field_top, field_low, byte_field}
use Rattle.bits.proofs.Joins.{put_byte}
use Rattle.lane_words.specs.definitions.LaneWords.{word_lanes}
use Rattle.lane_words.specs.private.Thirds.{number_at, word_place, information_in, across_of, Written}
use Rattle.lane_words.proofs.LaneWords.{field_middle, word_middle, word_first, word_last, lanes_word, lanes_length}
use Rattle.lane_words.proofs.Thirds.{join, number_of}

-- ---- 64 bits of the words in a string a

-- a word whose first information bit is bit b
module _ (a : List ℕ) (b hi lo : ℕ) (l : lo < 2 ^ 64) (e : field_at a b 110 ≡ word_of hi lo / 2 ^ 16) where
  -- the 64 bits before its last m
  pub word_inside : (m c : ℕ) {r : ℕ} → m < 47 → r ≡ join hi lo (16 + m) → b + (46 - m) ≡ c → r ≡ field_at a c 64
  word_inside m c h er ec =
      let all : 110 ≡ 46 - m + 64 + m = omega arith in
      er ∙ word_middle hi lo (16 + m) l (omega arith)
      ∙ ap (λ (x : ℕ). x % 2 ^ 64) (sym (shr-shr (word_of hi lo) 16 m) ∙ ap (λ (x : ℕ). x / 2 ^ m) (sym e ∙ ap (field_at a b) all))
      ∙ field_middle a b (46 - m) 64 m ∙ ap (λ (i : ℕ). field_at a i 64) ec

  -- its last m
  last_bits : (m : ℕ) → m < 49 → lo / 65536 % 2 ^ m ≡ field_at a (b + (110 - m)) m
  last_bits m h =
      let all : 110 ≡ 110 - m + m = omega arith in
      word_last hi lo m l (omega arith) ∙ ap (λ (x : ℕ). x % 2 ^ m) (sym e ∙ ap (field_at a b) all) ∙ field_low a b (110 - m) m

  -- its first n
  first_bits_lem : (m n : ℕ) → 62 ≡ n + m → hi % 2 ^ 62 / 2 ^ m ≡ field_at a b n
  first_bits_lem m n all =
      ap (λ (x : ℕ). x / 2 ^ m) (word_first hi lo l ∙ ap (λ (x : ℕ). x / 2 ^ 48) (sym e) ∙ field_top a b 62 48 ∙ ap (field_at a b) all)
      ∙ field_top a b n m

-- the last m bits of a word's information and the first of the next
pub word_across : (a : List ℕ) (b hi lo hi' lo' : ℕ) → lo < 2 ^ 64 → lo' < 2 ^ 64 → field_at a b 110 ≡ word_of hi lo / 2 ^ 16
    → field_at a (b + 110) 110 ≡ word_of hi' lo' / 2 ^ 16 → (m c : ℕ) {r : ℕ} → 1 < m → m < 49 → r ≡ across_of lo hi' m → b + (110 - m) ≡ c
    → r ≡ field_at a c 64
word_across a b hi lo hi' lo' l l' e e' m c h k er ec =
    let n = 64 - m in
    let y = hi' * 2 ^ 2 % 2 ^ 64 in
    let lower : information_in lo ≡ lo / 65536 = omega arith in
    let upper : y / 2 ^ 2 ≡ hi' % 2 ^ 62 = omega arith in
    let two : m ≡ 2 + (m - 2) = omega arith in
    let rest : 62 ≡ n + (m - 2) = omega arith in
    let all : m + n ≡ 64 = omega arith in
    let from : b + 110 ≡ b + (110 - m) + m = omega arith in
    let next : y / 2 ^ m ≡ field_at a (b + (110 - m) + m) n =
    ap (λ (i : ℕ). y / 2 ^ i) two ∙ sym (shr-shr y 2 (m - 2)) ∙ ap (λ (v : ℕ). v / 2 ^ (m - 2)) upper
    ∙ first_bits_lem a (b + 110) hi' lo' l' e' (m - 2) n rest ∙ ap (λ (i : ℕ). field_at a i n) from in
    er ∙ ap₂ (λ (u v : ℕ). u * 2 ^ n + v) (ap (λ (v : ℕ). v % 2 ^ m) lower ∙ last_bits a b hi lo l e m k) next
    ∙ sym (field_join a (b + (110 - m)) m n) ∙ ap₂ (field_at a) ec all

-- ---- the numbers of a third

-- the numbers hi and lo are the word whose first information bit is bit b of the string a
pub record WordFrom (a : List ℕ) (b hi lo : ℕ) : Type 0 where
  pub small : lo < 2 ^ 64
  pub is : field_at a b 110 ≡ word_of hi lo / 2 ^ 16

-- word q of the four of third t of lane p, in a row of words
pub third_word : (s : List ℕ) (p t q : ℕ) {hi lo : ℕ} → p < 32 → t < 3 → q < 4 → ((i : ℕ) → get_or s i 0 < 2 ^ 64)
    → (hi ≡ get_or s (2 * word_place (4 * t + q) p) 0) × (lo ≡ get_or s (2 * word_place (4 * t + q) p + 1) 0)
    → WordFrom (word_lanes s) (1320 * p + 440 * t + 110 * q) hi lo
third_word s p t q {lo = lo} hp ht hq small e =
    let j = 12 * p + 4 * t + q in
    let place : word_place (4 * t + q) p ≡ 32 * (j % 12) + j / 12 = omega arith in
    let from : 110 * j ≡ 1320 * p + 440 * t + 110 * q = omega arith in
    let l : lo < 2 ^ 64 = rw e.1 (small _) in
    record {
      small = l;
      is =
          ap (λ (i : ℕ). field_at (word_lanes s) i 110) (sym from)
          ∙ lanes_word s j (omega arith) l (e.0 ∙ ap (λ (i : ℕ). get_or s (2 * i) 0) place) (e.1 ∙ ap (λ (i : ℕ). get_or s (2 * i + 1) 0) place);
    }

-- 64 bits of such words: before the last m bits of one, or its last m and then the first of the next
inside : {a : List ℕ} {b hi lo : ℕ} → WordFrom a b hi lo → (m c : ℕ) {r : ℕ} → m < 47 → r ≡ join hi lo (16 + m) → b + (46 - m) ≡ c → r ≡ field_at a c 64
inside W m c h er ec = word_inside _ _ _ _ W.small W.is m c h er ec

between : {a : List ℕ} {b b' hi lo hi' lo' : ℕ} → WordFrom a b hi lo → WordFrom a b' hi' lo' → (m c : ℕ) {r : ℕ} → b' ≡ b + 110 → 1 < m → m < 49
    → r ≡ across_of lo hi' m → b + (110 - m) ≡ c → r ≡ field_at a c 64
between {a} W V m c e h k er ec =
    word_across a _ _ _ _ _ W.small V.small W.is (ap (λ (i : ℕ). field_at a i 110) (sym e) ∙ V.is) m c h k er ec

-- the seven numbers out of the four words
pub join_law : (a : List ℕ) (p t : ℕ) {h₀ l₀ h₁ l₁ h₂ l₂ h₃ l₃ n₀ n₁ n₂ n₃ n₄ n₅ n₆ : ℕ}
    → let from : ℕ → ℕ = λ q. 1320 * p + 440 * t + 110 * q in
    WordFrom a (from 0) h₀ l₀ → WordFrom a (from 1) h₁ l₁ → WordFrom a (from 2) h₂ l₂ → WordFrom a (from 3) h₃ l₃
    → n₀ ≡ join h₀ l₀ 62 → n₁ ≡ across_of l₀ h₁ 46 → n₂ ≡ join h₁ l₁ 44 → n₃ ≡ across_of l₁ h₂ 28
    → n₄ ≡ join h₂ l₂ 26 → n₅ ≡ across_of l₂ h₃ 10 → n₆ ≡ join h₃ l₃ 16
    → n₀ ∷ n₁ ∷ n₂ ∷ n₃ ∷ n₄ ∷ n₅ ∷ n₆ ∷ [] ≡ tabulate 7 (number_at a p t)
unfolding tabulate number_at
join_law a p t W₀ W₁ W₂ W₃ e₀ e₁ e₂ e₃ e₄ e₅ e₆ =
    let b = 1320 * p + 440 * t in
    let f₀ = inside W₀ 46 (b + 0) (lit< tt) e₀ (omega arith) in
    let f₁ = between W₀ W₁ 46 (b + 64) (omega arith) (lit< tt) (lit< tt) e₁ (omega arith) in
    let f₂ = inside W₁ 28 (b + 128) (lit< tt) e₂ (omega arith) in
    let f₃ = between W₁ W₂ 28 (b + 192) (omega arith) (lit< tt) (lit< tt) e₃ (omega arith) in
    let f₄ = inside W₂ 10 (b + 256) (lit< tt) e₄ (omega arith) in
    let f₅ = between W₂ W₃ 10 (b + 320) (omega arith) (lit< tt) (lit< tt) e₅ (omega arith) in
    let f₆ = inside W₃ 0 (b + 376) (lit< tt) e₆ (omega arith) in
    λ k. f₀ k ∷ f₁ k ∷ f₂ k ∷ f₃ k ∷ f₄ k ∷ f₅ k ∷ f₆ k ∷ []

-- ---- the bytes of a third

-- byte q of eight
eight_byte : (a : List ℕ) → AllBytes a → (b m q : ℕ) {v : ℕ} → q < 8 → b + 8 * q ≡ 8 * m → v ≡ field_at a b 64 → v / 2 ^ (8 * (7 - q)) % 256 ≡ get_or a m 0
eight_byte a B b m q h e ev =
    let k = 8 * (7 - q) in
    let all : 64 ≡ 8 * q + 8 + k = omega arith in
    ap (λ (x : ℕ). x / 2 ^ k % 2 ^ 8) (ev ∙ ap (field_at a b) all) ∙ field_middle a b (8 * q) 8 k ∙ ap (λ (i : ℕ). field_at a i 8) e ∙ byte_field a B m

module _ {a : List ℕ} where
  -- as many, in other words
  pub written_as : {n m : ℕ} {l : List ℕ} → n ≡ m → Written a n l → Written a m l
  written_as {l = l} e W = subst (λ (k : ℕ). Written a k l) e W

  -- those of number j of a third, from byte o on
  pub written_put : (p t : ℕ) {n o : ℕ} {d l ns : List ℕ} (j m : ℕ) → AllBytes a → ns ≡ tabulate 7 (number_at a p t) → j < 7
      → o ≡ 165 * p + 55 * t + 8 * j - j / 6 → o ≤ n → m ≡ o + 8 → Written a n d → Put 8 (get_or ns j 0) o d l → Written a m l
  written_put p t {n} {o} {d} {l} {ns} j m A es hj eo ho em W P = record { long = P.long ∙ W.long; is = λ c b. at c (dec_lt c o) b }
    where
      at : (c : ℕ) → Dec (c < o) → c < m → get_or l c 0 ≡ get_or a c 0
      at c (yes q) b = P.before c q ∙ W.is c (omega arith)
      at c (no q) b =
          let e : o + (c - o) ≡ c = omega arith in
          ap (λ (i : ℕ). get_or l i 0) (sym e) ∙ put_byte P (c - o) (omega arith)
          ∙ eight_byte a A (8 * o) c (c - o) (omega arith) (omega arith) (number_of a p t es j (8 * o) hj (omega arith))

-- all of them
pub written_done : (s : List ℕ) {l : List ℕ} {n : ℕ} → Written (word_lanes s) n l → 5280 ≤ n → l ≡ word_lanes s
written_done s W h =
    is_tabulate 0 _ 5280 _ W.long (λ m b. W.is m (omega arith)) ∙ sym (is_tabulate 0 (word_lanes s) 5280 _ (lanes_length s) (λ m b. refl))
