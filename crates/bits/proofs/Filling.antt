-- A loop that fills a buffer from the front: `while i < n { out[i] = v; i += 1 }`. `Filling` is its invariant; `filling_start`, `filling_step` and
-- `filling_done` answer where the loop begins, after a step and at the end; `filling_put` a step that lends a part to a callee. The measure is n - i.
-- Assumes nothing.
use mathlib.Core.Path.{◌≡◌, refl, sym, ap, ◌∙◌, subst}
use mathlib.Core.List.{List, [], ◌∷◌, ◌++◌, append-nil, append_assoc}
use Prim.Native.Nat.{ℕ, zero, suc, ◌+◌, ◌-◌, ◌≤◌, ◌<◌, zero-le}
use native.Mathlib.Nat.{not-suc-le-zero, le_of_suc-le-suc}
use native.Mathlib.Numerals.{add-one}
use native.Mathlib.Omega.{arith}
use lib.ListN.{length, get_or, set, drop, take, length-append, length-take, length-drop, length-set}
use lib.Seq.{drop-length, take_at, drop-append-add, drop-drop, get_or-append-add, get_or-drop}
use Rattle.bits.specs.definitions.Bits.{tabulate}
use Rattle.bits.proofs.Tabulate.{length_tabulate, tabulate_cong, tabulate_append}

-- out holds the first i elements of the table of f, and then what out₀ had; both are n long
pub record Filling {A : Type 0} (f : ℕ → A) (n : ℕ) (out₀ out : List A) (i : ℕ) : Type 0 where
  pub upto : i ≤ n
  pub long₀ : length out₀ ≡ n
  pub long : length out ≡ n
  pub is : out ≡ tabulate i f ++ drop i out₀

one_more : {A : Type 0} (f : ℕ → A) (i : ℕ) (d : List A) → i < length d → set (tabulate i f ++ drop i d) i (f i) ≡ tabulate (suc i) f ++ drop (suc i) d
unfolding tabulate
one_more f i [] h = absurd (not-suc-le-zero h)
one_more f zero (x ∷ d) h = refl
one_more f (suc i) (x ∷ d) h = ap (λ t. f zero ∷ t) (one_more (λ k. f (suc k)) i d (le_of_suc-le-suc h))

module _ {A : Type 0} (f : ℕ → A) {n : ℕ} {out₀ : List A} where
  pub filling_start : length out₀ ≡ n → Filling f n out₀ out₀ 0
  unfolding tabulate
  filling_start e = record { upto = zero-le; long₀ = e; long = e; is = refl }

  -- what is not filled yet is what was there
  pub filling_rest : {out : List A} {i : ℕ} (k : ℕ) (d : A) → Filling f n out₀ out i → i ≤ k → get_or out k d ≡ get_or out₀ k d
  filling_rest {out} {i} k d F h =
      let e : i + (k - i) ≡ k = omega arith in
      ap (λ (l : List A). get_or l k d) F.is
      ∙ ap (λ (m : ℕ). get_or (tabulate i f ++ drop i out₀) m d) (sym (ap (λ (m : ℕ). m + (k - i)) (length_tabulate i f) ∙ e))
      ∙ get_or-append-add (tabulate i f) (drop i out₀) (k - i) d
      ∙ get_or-drop i out₀ (k - i) d ∙ ap (λ (m : ℕ). get_or out₀ m d) e

  pub filling_step : {out : List A} {i : ℕ} (v : A) → Filling f n out₀ out i → i < n → v ≡ f i → Filling f n out₀ (set out i v) (i + 1)
  filling_step {out} {i} v F h e =
      record {
        upto = omega arith;
        long₀ = F.long₀;
        long = length-set out i v ∙ F.long;
        is =
            (λ k. set (F.is k) i (e k)) ∙ one_more f i out₀ (omega (arith, F.long₀))
            ∙ ap (λ (k : ℕ). tabulate k f ++ drop k out₀) (sym (add-one i));
      }

  -- the same where the code's index is j, for a step that stores more than once
  pub filling_at : {out : List A} {i : ℕ} (j : ℕ) (v : A) → j ≡ i → Filling f n out₀ out i → j < n → v ≡ f j → Filling f n out₀ (set out j v) (j + 1)
  filling_at {out} {i} j v q F h e = filling_step v (subst (Filling f n out₀ out) (sym q) F) h e

  pub filling_done : {out : List A} {i : ℕ} → Filling f n out₀ out i → n ≤ i → out ≡ tabulate n f
  filling_done {out} {i} F h =
      let e : i ≡ n = omega arith in
      F.is ∙ ap (λ (k : ℕ). tabulate k f ++ drop k out₀) (e ∙ sym F.long₀) ∙ ap (λ (t : List A). tabulate (length out₀) f ++ t) (drop-length out₀)
      ∙ append-nil (tabulate (length out₀) f) ∙ ap (λ (k : ℕ). tabulate k f) F.long₀

  -- a callee was lent `&mut out[i..e]` and left part there; its table may depend on the part's length
  pub filling_put : {out : List A} {i : ℕ} (e : ℕ) (part : List A) (w : ℕ → ℕ → A) → Filling f n out₀ out i → i ≤ e → e ≤ n
      → part ≡ tabulate (length (take (e - i) (drop i out))) (w (length (take (e - i) (drop i out))))
      → ((k : ℕ) → k < e - i → w (e - i) k ≡ f (i + k)) → Filling f n out₀ (take i out ++ (part ++ drop (e - i) (drop i out))) e
  filling_put {out} {i} e part w F le ln p agree =
      record {
        upto = ln;
        long₀ = F.long₀;
        long = ap length is' ∙ simp (length-append, length_tabulate, length-drop) (omega (arith, F.long₀));
        is = is';
      }
    where
      m : ℕ
      m = e - i

      whole : i + m ≡ e
      whole = omega arith

      size : length (take m (drop i out)) ≡ m
      size = simp (length-take, length-drop) (omega (arith, F.long))

      front : take i out ≡ tabulate i f
      front = ap (take i) F.is ∙ take_at (tabulate i f) (drop i out₀) i (length_tabulate i f)

      middle : part ≡ tabulate m (λ k. f (i + k))
      middle = p ∙ ap (λ (k : ℕ). tabulate k (w k)) size ∙ tabulate_cong m (w m) (λ k. f (i + k)) agree

      back : drop m (drop i out) ≡ drop e out₀
      back =
          drop-drop m i out ∙ ap (drop (i + m)) F.is
          ∙ ap (λ (k : ℕ). drop (k + m) (tabulate i f ++ drop i out₀)) (sym (length_tabulate i f))
          ∙ drop-append-add (tabulate i f) (drop i out₀) m
          ∙ drop-drop m i out₀ ∙ ap (λ (k : ℕ). drop k out₀) whole

      is' : take i out ++ (part ++ drop m (drop i out)) ≡ tabulate e f ++ drop e out₀
      is' =
          (λ k. front k ++ (middle k ++ back k))
          ∙ sym (append_assoc (tabulate i f) (tabulate m (λ j. f (i + j))) (drop e out₀))
          ∙ ap (λ (t : List A). t ++ drop e out₀) (sym (tabulate_append i m f) ∙ ap (λ (k : ℕ). tabulate k f) whole)
