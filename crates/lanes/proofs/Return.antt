-- There and back over a stream: a bit that is interleaved and deinterleaved comes back 36 blocks later, behind zeros. Both stages move bits from place
-- to place, so the way back goes through whatever is done bit by bit.
-- Assumes nothing.
use mathlib.Core.Path.{◌≡◌, refl, sym, ap, ap₂, ◌∙◌}
use mathlib.Core.Bool.{Bool, true, false, cond}
use mathlib.Core.Logic.{⊎_elim}
use Prim.Native.Nat.{ℕ, ◌+◌, ◌*◌, ◌-◌, ◌/◌, ◌%◌, ◌≤◌, ◌<◌}
use native.Mathlib.Omega.{arith}
use lib.Dec.{lit<}
use Rattle.lanes.specs.definitions.Permutation.{Lanes, Places, partner, permuted}
use Rattle.lanes.specs.definitions.Stream.{delayed, interleaved}
use Rattle.lanes.specs.private.Stream.{deinterleaved}
use Rattle.lanes.proofs.Rows.{lt_or_le, delayed_early, delayed_at}

-- the lane with which symbol s of lane p stands after the permutation
unfoldable pub across : Places → ℕ → ℕ → ℕ
across ex p s = cond (ex (s % 4)) (partner p) p

module _ (ex : Places) where
  pub across_lt : (p s : ℕ) → p < 32 → across ex p s < 32
  unfolding across
  across_lt p s h = go (ex (s % 4))
    where
      go : (b : Bool) → cond b (partner p) p < 32
      go true = omega arith
      go false = h

  pub across_place : (p s t : ℕ) → s % 4 ≡ t % 4 → across ex p s ≡ across ex p t
  unfolding across
  across_place p s t e = ap (λ (k : ℕ). cond (ex k) (partner p) p) e

  pub across_twice : (p s : ℕ) → p < 32 → across ex (across ex p s) s ≡ p
  unfolding across
  across_twice p s h = go (ex (s % 4))
    where
      go : (b : Bool) → cond b (partner (cond b (partner p) p)) (cond b (partner p) p) ≡ p
      go true = omega arith
      go false = refl

  pub permuted_across : (x : Lanes) (p i : ℕ) → permuted ex x p i ≡ x (across ex p (i / 10)) i
  unfolding permuted across
  permuted_across x p i = go (ex (i / 10 % 4))
    where
      go : (b : Bool) → cond b (x (partner p) i) (x p i) ≡ x (cond b (partner p) p) i
      go true = refl
      go false = refl

  deinterleaved_is : (y : Lanes) (p i : ℕ) → deinterleaved ex y p i ≡ delayed (40 * (18 * (2 - i / 40 % 3))) (y (across ex p (i / 10))) i
  unfolding deinterleaved
  deinterleaved_is y p i = permuted_across (λ p i. delayed (40 * (18 * (2 - i / 40 % 3))) (y p) i) p i

  -- bit i of lane p is sent here
  pub carried : (x : Lanes) (p i : ℕ) → p < 32 → interleaved ex x (across ex p (i / 10)) (i + 720 * (i / 40 % 3)) ≡ x p i
  unfolding interleaved
  carried x p i h =
      let j = i + 720 * (i / 40 % 3) in
      let d : j ≡ i + 40 * (18 * (j / 40 % 3)) = omega arith in
      delayed_at (40 * (18 * (j / 40 % 3))) (permuted ex x (across ex p (i / 10))) j i d
      ∙ permuted_across x (across ex p (i / 10)) i ∙ ap (λ (q : ℕ). x q i) (across_twice p (i / 10) h)

  -- and fetched from here, 36 blocks later
  pub fetched : (y : Lanes) (p i : ℕ) → deinterleaved ex y p (i + 1440) ≡ y (across ex p (i / 10)) (i + 720 * (i / 40 % 3))
  fetched y p i =
      let j = i + 1440 in
      let d : j ≡ i + 720 * (i / 40 % 3) + 40 * (18 * (2 - j / 40 % 3)) = omega arith in
      let e : j / 10 % 4 ≡ i / 10 % 4 = omega arith in
      deinterleaved_is y p j ∙ delayed_at (40 * (18 * (2 - j / 40 % 3))) (y (across ex p (j / 10))) j (i + 720 * (i / 40 % 3)) d
      ∙ ap (λ (q : ℕ). y q (i + 720 * (i / 40 % 3))) (across_place p (j / 10) (i / 10) e)

  pub back_late : (x : Lanes) (p i : ℕ) → p < 32 → deinterleaved ex (interleaved ex x) p (i + 1440) ≡ x p i
  back_late x p i h = fetched (interleaved ex x) p i ∙ carried x p i h

  pub back_early : (x : Lanes) (p i : ℕ) → i < 1440 → deinterleaved ex (interleaved ex x) p i ≡ 0
  unfolding interleaved
  back_early x p i h =
      let d = 40 * (18 * (2 - i / 40 % 3)) in
      let q = across ex p (i / 10) in
      let j = i - d in
      deinterleaved_is (interleaved ex x) p i
      ∙ ⊎_elim (λ (l : i < d). delayed_early d (interleaved ex x q) i l)
      (λ (l : d ≤ i). delayed_at d (interleaved ex x q) i j (omega arith) ∙ delayed_early (40 * (18 * (j / 40 % 3))) (permuted ex x q) j (omega arith))
      (lt_or_le i d)

  -- what comes back by bit i depends on what has arrived by then
  pub deinterleaved_cong : (x y : Lanes) (p i : ℕ) → p < 32 → ((q j : ℕ) → q < 32 → j ≤ i → x q j ≡ y q j) → deinterleaved ex x p i ≡ deinterleaved ex y p i
  deinterleaved_cong x y p i h e =
      let d = 40 * (18 * (2 - i / 40 % 3)) in
      let q = across ex p (i / 10) in
      deinterleaved_is x p i
      ∙ ⊎_elim (λ (l : i < d). delayed_early d (x q) i l ∙ sym (delayed_early d (y q) i l))
      (λ (l : d ≤ i).
      let j = i - d in
      let s : i ≡ j + d = omega arith in
      delayed_at d (x q) i j s ∙ e q j (across_lt p (i / 10) h) (omega arith) ∙ sym (delayed_at d (y q) i j s)) (lt_or_le i d)
      ∙ sym (deinterleaved_is y p i)

  pub deinterleaved_lt : (y : Lanes) → ((q j : ℕ) → y q j < 2) → (p i : ℕ) → deinterleaved ex y p i < 2
  deinterleaved_lt y bit p i =
      let d = 40 * (18 * (2 - i / 40 % 3)) in
      let q = across ex p (i / 10) in
      rw (deinterleaved_is y p i)
      (⊎_elim (λ (l : i < d). rw (delayed_early d (y q) i l) (lit< tt))
      (λ (l : d ≤ i). rw (delayed_at d (y q) i (i - d) (omega arith)) (bit q (i - d))) (lt_or_le i d))

  -- and goes through an operation that makes 0 of zeros
  pub deinterleaved_zip : (g : ℕ → ℕ → ℕ) → g 0 0 ≡ 0 → (x y : Lanes) (p i : ℕ)
      → deinterleaved ex (λ p i. g (x p i) (y p i)) p i ≡ g (deinterleaved ex x p i) (deinterleaved ex y p i)
  deinterleaved_zip g z x y p i =
      let d = 40 * (18 * (2 - i / 40 % 3)) in
      let q = across ex p (i / 10) in
      let both : Lanes = λ p i. g (x p i) (y p i) in
      deinterleaved_is both p i
      ∙ ⊎_elim (λ (l : i < d). delayed_early d (both q) i l ∙ sym (ap₂ g (delayed_early d (x q) i l) (delayed_early d (y q) i l) ∙ z))
      (λ (l : d ≤ i).
      let j = i - d in
      let s : i ≡ j + d = omega arith in
      delayed_at d (both q) i j s ∙ sym (ap₂ g (delayed_at d (x q) i j s) (delayed_at d (y q) i j s))) (lt_or_le i d)
      ∙ sym (ap₂ g (deinterleaved_is x p i) (deinterleaved_is y p i))
