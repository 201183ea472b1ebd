-- A list given by its length and by what stands at each place.
-- Assumes nothing.
use mathlib.Core.Path.{◌≡◌, refl, sym, ap, ◌∙◌}
use mathlib.Core.List.{List, ◌∷◌, ◌++◌}
use Prim.Native.Nat.{ℕ, zero, suc, ◌+◌, ◌<◌, zero-le, suc-le-suc}
use native.Mathlib.Nat.{not-suc-le-zero, le_of_suc-le-suc, zero-add, suc-add}
use native.Mathlib.Omega.{arith}
use lib.ListN.{length, get_or}
use lib.Seq.{ext_get_or}
use Rattle.bits.specs.definitions.Bits.{tabulate}

module _ {A : Type 0} where
  pub length_tabulate : (n : ℕ) (f : ℕ → A) → length (tabulate n f) ≡ n
  unfolding tabulate
  length_tabulate zero f = refl
  length_tabulate (suc n) f = ap suc (length_tabulate n (λ i. f (suc i)))

  pub get_d_tabulate : (n : ℕ) (f : ℕ → A) (i : ℕ) (d : A) → i < n → get_or (tabulate n f) i d ≡ f i
  unfolding tabulate
  get_d_tabulate zero f i d h = absurd (not-suc-le-zero h)
  get_d_tabulate (suc n) f zero d h = refl
  get_d_tabulate (suc n) f (suc i) d h = get_d_tabulate n (λ k. f (suc k)) i d (le_of_suc-le-suc h)

  -- it depends on the first n values alone
  pub tabulate_cong : (n : ℕ) (f g : ℕ → A) → ((i : ℕ) → i < n → f i ≡ g i) → tabulate n f ≡ tabulate n g
  unfolding tabulate
  tabulate_cong zero f g h = refl
  tabulate_cong (suc n) f g h =
      λ k. h zero (suc-le-suc zero-le) k ∷ tabulate_cong n (λ i. f (suc i)) (λ i. g (suc i)) (λ i l. h (suc i) (suc-le-suc l)) k

  pub tabulate_append : (i m : ℕ) (f : ℕ → A) → tabulate (i + m) f ≡ tabulate i f ++ tabulate m (λ k. f (i + k))
  unfolding tabulate
  tabulate_append zero m f = ap (λ (k : ℕ). tabulate k f) (zero-add m) ∙ tabulate_cong m f (λ k. f (zero + k)) (λ k h. ap f (sym (zero-add k)))
  tabulate_append (suc i) m f =
      ap (λ (k : ℕ). tabulate k f) (suc-add i m)
      ∙ ap (λ (t : List A). f zero ∷ t) (tabulate_append i m (λ k. f (suc k)))
      ∙ ap (λ (t : List A). f zero ∷ (tabulate i (λ k. f (suc k)) ++ t))
      (tabulate_cong m (λ k. f (suc (i + k))) (λ k. f (suc i + k)) (λ k h. ap f (sym (suc-add i k))))

  -- a list with the length and the elements is the table
  pub is_tabulate : (d : A) (l : List A) (n : ℕ) (f : ℕ → A) → length l ≡ n → ((i : ℕ) → i < n → get_or l i d ≡ f i) → l ≡ tabulate n f
  is_tabulate d l n f e h =
      ext_get_or d l (tabulate n f) (e ∙ sym (length_tabulate n f))
      (λ i b. let b' : i < n = omega arith in h i b' ∙ sym (get_d_tabulate n f i d b'))
