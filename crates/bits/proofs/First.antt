-- The first of a list that passes a test: it is in the list and passes, or none does. And what is in a table, and in a list of lists.
-- Assumes nothing.
use mathlib.Core.Path.{◌≡◌, refl, ap, ap₂, ◌∙◌}
use mathlib.Core.Bool.{Bool, true, false, cond}
use mathlib.Core.Logic.{◌⊎◌, inl, inr, ⊎_elim}
use mathlib.Core.List.Memᴰ
use mathlib.Core.List.{List, [], ◌∷◌, ◌++◌, flatten, Memᴰ}
use Prim.Native.Nat.{ℕ, zero, suc, ◌<◌, zero-le, suc-le-suc}
use native.Mathlib.Nat.{le_of_suc-le-suc, not-suc-le-zero}
use Rattle.bits.specs.definitions.Bits.{tabulate, first}

module _ {A : Type 0} where
  -- r is the first that passes, or none passes and r is the other
  pub record Found (p : A → Bool) (l : List A) (r : A) : Type 0 where
    pub member : Memᴰ r l
    pub passes : p r ≡ true

  pub record None (p : A → Bool) (l : List A) (other r : A) : Type 0 where
    pub is : r ≡ other
    pub fails : (x : A) → Memᴰ x l → p x ≡ false

  pub first_cases : (p : A → Bool) (l : List A) (other : A) → Found p l (first p l other) ⊎ None p l other (first p l other)
  unfolding first
  first_cases p [] other = inr (record { is = refl; fails = λ x m. absurd (Memᴰ.not-nil m) })
  first_cases p (x ∷ xs) other = go (p x) refl (first_cases p xs other)
    where
      go : (b : Bool) → p x ≡ b → Found p xs (first p xs other) ⊎ None p xs other (first p xs other)
          → Found p (x ∷ xs) (cond b x (first p xs other)) ⊎ None p (x ∷ xs) other (cond b x (first p xs other))
      go true e s = inl (record { member = Memᴰ.head refl; passes = e })
      go false e (inl f) = inl (record { member = Memᴰ.tail f.member; passes = f.passes })
      go false e (inr n) =
          inr (record { is = n.is; fails = λ y m. ⊎_elim (λ q. ap p q ∙ e) (λ k. n.fails y k) (Memᴰ.cases_cons m) })

  -- tests that agree find the same
  pub first_cong : (p q : A → Bool) (l : List A) (other : A) → ((x : A) → p x ≡ q x) → first p l other ≡ first q l other
  unfolding first
  first_cong p q [] other h = refl
  first_cong p q (x ∷ xs) other h = ap₂ (λ (b : Bool) (y : A). cond b x y) (h x) (first_cong p q xs other h)

  pub in_tabulate : (n : ℕ) (f : ℕ → A) (i : ℕ) → i < n → Memᴰ (f i) (tabulate n f)
  unfolding tabulate
  in_tabulate zero f i h = absurd (not-suc-le-zero h)
  in_tabulate (suc n) f zero h = Memᴰ.head refl
  in_tabulate (suc n) f (suc i) h = Memᴰ.tail (in_tabulate n (λ k. f (suc k)) i (le_of_suc-le-suc h))

  pub of_tabulate : (n : ℕ) (f : ℕ → A) (x : A) → Memᴰ x (tabulate n f) → (i : ℕ) × (i < n) × (x ≡ f i)
  unfolding tabulate
  of_tabulate zero f x m = absurd (Memᴰ.not-nil m)
  of_tabulate (suc n) f x m = go (Memᴰ.cases_cons m) (of_tabulate n (λ k. f (suc k)) x)
    where
      go : (x ≡ f 0) ⊎ Memᴰ x (tabulate n (λ k. f (suc k))) → (Memᴰ x (tabulate n (λ k. f (suc k))) → (i : ℕ) × (i < n) × (x ≡ f (suc i)))
          → (i : ℕ) × (i < suc n) × (x ≡ f i)
      go (inl e) ih = (0, suc-le-suc zero-le, e)
      go (inr k) ih = let r = ih k in (suc r.0, suc-le-suc r.1, r.2)

  pub in_flatten : (ls : List (List A)) (l : List A) (x : A) → Memᴰ l ls → Memᴰ x l → Memᴰ x (flatten ls)
  unfolding flatten
  in_flatten [] l x k m = absurd (Memᴰ.not-nil k)
  in_flatten (y ∷ ls) l x k m = go (Memᴰ.cases_cons k) (λ j. in_flatten ls l x j m)
    where
      go : (l ≡ y) ⊎ Memᴰ l ls → (Memᴰ l ls → Memᴰ x (flatten ls)) → Memᴰ x (y ++ flatten ls)
      go (inl e) ih = rw e at (Memᴰ.append_left (flatten ls) m)
      go (inr j) ih = Memᴰ.append_right y (ih j)

  pub of_flatten : (ls : List (List A)) (x : A) → Memᴰ x (flatten ls) → (l : List A) × Memᴰ l ls × Memᴰ x l
  unfolding flatten
  of_flatten [] x m = absurd (Memᴰ.not-nil m)
  of_flatten (y ∷ ls) x m = go (Memᴰ.append_cases y m) (of_flatten ls x)
    where
      go : Memᴰ x y ⊎ Memᴰ x (flatten ls) → (Memᴰ x (flatten ls) → (l : List A) × Memᴰ l ls × Memᴰ x l)
          → (l : List A) × Memᴰ l (y ∷ ls) × Memᴰ x l
      go (inl k) ih = (y, Memᴰ.head refl, k)
      go (inr k) ih = let r = ih k in (r.0, Memᴰ.tail r.1, r.2)
