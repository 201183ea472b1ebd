-- The search in blocks of neighbouring offsets: how many of the first pilots are right at each, the filter by that number, and what a search has found.
-- Assumes nothing.
use mathlib.Core.Path.{◌≡◌, refl, sym, ap, ap₂, ◌∙◌, subst}
use mathlib.Core.Bool.{Bool, true, false, cond}
use mathlib.Core.List.{List, [], ◌∷◌}
use Prim.Native.Nat.{ℕ, zero, suc, ◌+◌, ◌*◌, ◌-◌, ◌%◌, ◌<◌, ◌≤◌}
use native.Mathlib.Nat.{zero-add}
use native.Mathlib.Numerals.{add-one}
use native.Mathlib.Omega.{arith}
use lib.Dec.{eqb, ltb}
use lib.ListN.{length, get_or, take, drop, length-take, length-drop, replicate, length-replicate, get_or-replicate}
use lib.Seq.{length-take-le}
use Rattle.std.specs.Array.{IsFirstChunk}
use borrow.Author.Tests.{lt-ltb, le-ltb, ltb-true, ltb-false}
use Rattle.std.proofs.Common.{Option, Some, None, MatchOption, fold, max}
use Rattle.bits.specs.definitions.Bits.{tabulate, count, least}
use Rattle.bits.proofs.Count.{count_cong, count_le, count_both}
use Rattle.bits.proofs.Tabulate.{length_tabulate, get_d_tabulate, tabulate_cong, is_tabulate}
use Rattle.bits.proofs.Least.{least_is, least_passes, least_fails}
use Rattle.pilots.specs.definitions.Table5.{pilots}
use Rattle.pilots.specs.definitions.Pilots.{met, locks, below, offsets, first_lock, column_frame}
use Rattle.pilots.specs.private.Pilots.{agreeing, counts, least_right}
use Rattle.pilots.proofs.Lock.{met_is, no_lock, locks_alike, chunk_at, column_met}

-- ---- the filter: with so few of 32 pilots right 25 are wrong, and there is no lock
pub closed_from : (s : List ℕ) (o i : ℕ) → i + 32 ≤ 96 → count (λ k. met s o (i + k)) 32 < least_right → locks s o ≡ false
closed_from s o i l h = no_lock s o i 32 l (omega (arith, count_both (λ k. met s o (i + k)) 32))

pub closed : (s : List ℕ) (o : ℕ) → agreeing s o 32 < least_right → locks s o ≡ false
unfolding agreeing
closed s o h = closed_from s o 0 (omega arith) (omega (arith, count_cong 32 (λ k. met s o (0 + k)) (met s o) (λ k l. ap (met s o) (zero-add k))))

-- the same for 32 symbols side by side in a column, from row `at` on, which are those of 32 pilots from pilot i on
pub column_closed : (column : List ℕ) (first at i : ℕ) (symbols group : List ℕ) → i + 32 ≤ 96
    → ((k : ℕ) → k < 32 → (first + (i + k)) % 96 ≡ at + k) → ((k : ℕ) → k < 32 → get_or symbols k 0 ≡ get_or column (at + k) 0)
    → ((k : ℕ) → k < 32 → get_or group k 0 ≡ get_or pilots (i + k) 0) → count (λ k. eqb (get_or symbols k 0) (get_or group k 0)) 32 < least_right
    → locks (column_frame column first) 0 ≡ false
column_closed column first at i symbols group l rows here same h =
    closed_from (column_frame column first) 0 i l
    (let e = count_cong 32 (λ k. met (column_frame column first) 0 (i + k)) (λ k. eqb (get_or symbols k 0) (get_or group k 0)) (λ k m.
    column_met column first (i + k) (omega arith)
    ∙ ap₂ (λ (x y : ℕ). eqb x y) (ap (λ (n : ℕ). get_or column n 0) (rows k m) ∙ sym (here k m)) (sym (same k m))) in omega (arith, e))

-- no more are right than are counted
pub agreeing_le : (s : List ℕ) (o m : ℕ) → agreeing s o m ≤ m
unfolding agreeing
agreeing_le s o m = count_le (met s o) m

-- one pilot more is counted
agreeing_more : (s : List ℕ) (o i : ℕ) → o + 64 * i < length s
    → agreeing s o i + cond (eqb (get_or s (o + 64 * i) 0) (get_or pilots i 0)) 1 0 ≡ agreeing s o (i + 1)
unfolding agreeing count
agreeing_more s o i h = rw (add-one, met_is s o i h) (omega arith)

-- ---- the counts of the first 128 offsets
module _ (s : List ℕ) where
  -- each of them
  pub counts_at : (m j : ℕ) {right : List ℕ} → right ≡ counts s m → j < 128 → get_or right j 0 ≡ agreeing s j m
  counts_at m j e h = ap (λ (l : List ℕ). get_or l j 0) e ∙ get_d_tabulate 128 (λ j. agreeing s j m) j 0 h

  -- none is counted yet
  pub counts_none : replicate 128 0 ≡ counts s 0
  unfolding agreeing count
  counts_none = is_tabulate 0 (replicate 128 0) 128 (λ j. 0) (length-replicate {A = ℕ} 128 0) (λ j h. get_or-replicate {A = ℕ} 128 j 0 0 h)

  -- one pilot more is counted at each
  pub counts_more : (i pilot : ℕ) (row : List ℕ) {right next : List ℕ} → 64 * i + 128 ≤ length s → right ≡ counts s i
      → ((j : ℕ) → j < 128 → get_or row j 0 ≡ get_or s (64 * i + j) 0) → pilot ≡ get_or pilots i 0
      → next ≡ tabulate 128 (λ j. get_or right j 0 + cond (eqb (get_or row j 0) pilot) 1 0) → next ≡ counts s (i + 1)
  counts_more i pilot row {right} h e here p f =
      f ∙ tabulate_cong 128 _ _ (λ j l.
      let at : 64 * i + j ≡ j + 64 * i = omega arith in
      ap₂ (λ (x y : ℕ). x + cond (eqb y pilot) 1 0) (counts_at i j e l) (here j l ∙ ap (λ (k : ℕ). get_or s k 0) at)
      ∙ ap (λ (y : ℕ). agreeing s j i + cond (eqb (get_or s (j + 64 * i) 0) y) 1 0) p ∙ agreeing_more s j i (omega arith))

-- with too small a count an offset does not lock
pub closed_at : (s : List ℕ) (j : ℕ) {right : List ℕ} → right ≡ counts s 32 → j < 128 → get_or right j 0 < least_right → locks s j ≡ false
closed_at s j e l h = closed s j (omega (arith, counts_at s 32 j e l))

-- ---- what a search has found: r is the first of n numbers that passes the test p, or none does
abbrev pub IsFirst : (ℕ → Bool) → ℕ → Option ℕ → Type 0
IsFirst p n r = MatchOption r ((k : ℕ) → k < n → p k ≡ false) (λ o. (o < n) × (p o ≡ true) × ((k : ℕ) → k < o → p k ≡ false))

-- a number is below a, or it is not
from_two : {P : Type 0} (k a : ℕ) → (k < a → P) → (a ≤ k → P) → P
from_two {P} k a before behind = go (ltb k a) refl
  where
    go : (b : Bool) → ltb k a ≡ b → P
    go true t = before (ltb-true k a t)
    go false t = behind (ltb-false k a t)

module _ (p : ℕ → Bool) (n : ℕ) where
  -- such a number is the one that the contracts name
  pub found : (r : Option ℕ) → IsFirst p n r → r ≡ below n (least p n)
  found (Some o) h = rw (least_is p n o (omega arith) (λ l. h.1) h.2, lt-ltb o n h.0)
  found None h = rw (least_is p n n (omega arith) (λ l. absurd (omega arith)) h, le-ltb n n (omega arith))

  -- and the one that they name is such a number
  pub found_is : (r : Option ℕ) → r ≡ below n (least p n) → IsFirst p n r
  found_is r e = subst (IsFirst p n) (sym e) (go (ltb (least p n) n) refl)
    where
      go : (b : Bool) → ltb (least p n) n ≡ b → IsFirst p n (cond b (Some (least p n)) None)
      go true t = let l = ltb-true (least p n) n t in (l, least_passes p n l, least_fails p n)
      go false t = λ k l. let m = ltb-false (least p n) n t in least_fails p n k (omega arith)

  -- a search from a on, where none before a passes
  pub found_from : (a : ℕ) → ((k : ℕ) → k < a → p k ≡ false) → (r : Option ℕ)
      → MatchOption r ((k : ℕ) → a ≤ k → k < n → k < n → p k ≡ false)
      (λ o. (a ≤ o) × (o < n) × (p o ≡ true) × ((k : ℕ) → a ≤ k → k < o → k < n → p k ≡ false)) → r ≡ below n (least p n)
  found_from a before (Some o) h = found (Some o) (h.1, h.2, λ k l. from_two k a (before k) (λ m. h.3 k m l (omega arith)))
  found_from a before None h = found None (λ k l. from_two k a (before k) (λ m. h k m l l))

-- no number of a list is above the largest
largest_from : (xs : List ℕ) (a : ℕ) → (a ≤ fold max a xs) × ((j : ℕ) → j < length xs → get_or xs j 0 ≤ fold max a xs)
largest_from [] a = (omega arith, λ j l. absurd (omega arith))
largest_from (x ∷ xs) a = let r = largest_from xs (max a x) in (omega (arith, r.0), at r.0 r.1)
  where
    at : max a x ≤ fold max (max a x) xs → ((j : ℕ) → j < length xs → get_or xs j 0 ≤ fold max (max a x) xs) → (j : ℕ) → j < suc (length xs)
        → get_or (x ∷ xs) j 0 ≤ fold max (max a x) xs
    at h t zero l = omega arith
    at h t (suc j) l = t j (omega arith)

-- a block whose counts are all so small has no lock
pub block_closed : (s : List ℕ) {right : List ℕ} → right ≡ counts s 32 → fold max 0 right < least_right → None ≡ below 128 (least (locks s) 128)
block_closed s {right} e h =
    found (locks s) 128 None (λ j l.
    closed s j (omega (arith, h, counts_at s 32 j e l, (largest_from right 0).1 j (omega (arith, ap length e ∙ length_tabulate 128 (λ j. agreeing s j 32))))))

-- ---- a block of a run: its first 128 offsets are those of the run from o on
module _ (s chunk : List ℕ) (o m : ℕ) (h : IsFirstChunk (take m (drop o s)) chunk 6271) where
  -- it lies within the run
  block_fits : o + 6271 ≤ length s
  block_fits = omega (arith, h.enough, length-take m (drop o s), length-drop o s)

  -- and locks where the run does
  block_locks : (j : ℕ) → j < 128 → locks chunk j ≡ locks s (o + j)
  block_locks j l =
      locks_alike chunk j s (o + j) (omega (arith, ap length h.same ∙ length-take-le 6271 (take m (drop o s)) h.enough)) (omega (arith, block_fits))
      (λ i b.
      let at : o + (j + 64 * i) ≡ o + j + 64 * i = omega arith in
      chunk_at s chunk o m 6271 h (j + 64 * i) (omega arith) ∙ ap (λ (k : ℕ). get_or s k 0) at)

  -- none of them locks
  pub none_in_block : None ≡ below 128 (least (locks chunk) 128) → ((k : ℕ) → k < o → locks s k ≡ false) → (k : ℕ) → k < o + 128 → locks s k ≡ false
  none_in_block e before k l =
      from_two k o (before k) (λ b.
      let at : o + (k - o) ≡ k = omega arith in
      sym (ap (locks s) at) ∙ sym (block_locks (k - o) (omega arith)) ∙ found_is (locks chunk) 128 None e (k - o) (omega arith))

  -- or the first of them that does is the first of the run
  pub first_in_run : (j : ℕ) → Some j ≡ below 128 (least (locks chunk) 128) → ((k : ℕ) → k < o → locks s k ≡ false)
      → Some (o + j) ≡ below (offsets s) (first_lock s)
  unfolding first_lock
  first_in_run j e before =
      let f = found_is (locks chunk) 128 (Some j) e in
      found (locks s) (offsets s) (Some (o + j)) (
        omega (arith, f.0, block_fits),
        sym (block_locks j f.0) ∙ f.1,
        λ k l. from_two k o (before k) (λ b.
            let at : o + (k - o) ≡ k = omega arith in
            sym (ap (locks s) at) ∙ sym (block_locks (k - o) (omega (arith, f.0))) ∙ f.2 (k - o) (omega arith)),
      )
