-- One law for a row of any depth: frame by frame, with a store, is a delay over the stream.
-- Assumes nothing.
use mathlib.Core.Path.{◌≡◌, refl, ap, ap₂, ◌∙◌, sym}
use mathlib.Core.Bool.{Bool, true, false, cond}
use mathlib.Core.Logic.{⊎_elim, ◌⊎◌, inl, inr}
use Prim.Native.Nat.{ℕ, zero, suc, ◌+◌, ◌*◌, ◌-◌, ◌/◌, ◌%◌, ◌≤◌, ◌<◌}
use native.Mathlib.Nat.{mul-le-mul_left}
use native.Mathlib.Omega.{arith}
use lib.Dec.{ltb}
use borrow.Author.Tests.{lt-ltb, le-ltb, ltb-true, ltb-false}
use Rattle.lanes.specs.definitions.Interleaver.{Rows, sender, receiver, row_at}
use Rattle.lanes.specs.definitions.Stream.{delayed}
use Rattle.lanes.specs.private.Blocks.{FillStore}

pub lt_or_le : (m n : ℕ) → (m < n) ⊎ (n ≤ m)
lt_or_le m n = go (ltb m n) refl
  where
    go : (b : Bool) → ltb m n ≡ b → (m < n) ⊎ (n ≤ m)
    go true e = inl (ltb-true m n e)
    go false e = inr (ltb-false m n e)

pub delayed_early : (d : ℕ) (x : ℕ → ℕ) (i : ℕ) → i < d → delayed d x i ≡ 0
unfolding delayed
delayed_early d x i h = rw (lt-ltb i d h)

pub delayed_at : (d : ℕ) (x : ℕ → ℕ) (i j : ℕ) → i ≡ j + d → delayed d x i ≡ x j
unfolding delayed
delayed_at d x i j h =
    let l : d ≤ i = omega arith in
    let e : i - d ≡ j = omega arith in
    rw (le-ltb i d l, e)

-- it depends on the difference only
pub delayed_same : (d e : ℕ) (x : ℕ → ℕ) (i k : ℕ) → i + e ≡ k + d → delayed d x i ≡ delayed e x k
delayed_same d e x i k h =
    ⊎_elim (λ (l : i < d). delayed_early d x i l ∙ sym (delayed_early e x k (omega arith)))
    (λ (l : d ≤ i). delayed_at d x i (i - d) (omega arith) ∙ sym (delayed_at e x k (i - d) (omega arith))) (lt_or_le i d)

-- and goes by every u-th element, from r on
pub delayed_grain : (u r D m : ℕ) (x : ℕ → ℕ) → r < u → delayed D (λ k. x (u * k + r)) m ≡ delayed (u * D) x (u * m + r)
delayed_grain u r D m x h =
    ⊎_elim
    (λ (l : m < D). delayed_early D (λ k. x (u * k + r)) m l ∙ sym (delayed_early (u * D) x (u * m + r) (omega (arith, mul-le-mul_left u l))))
    (λ (l : D ≤ m). late (m - D) (omega arith)) (lt_or_le m D)
  where
    late : (e : ℕ) → m ≡ e + D → delayed D (λ k. x (u * k + r)) m ≡ delayed (u * D) x (u * m + r)
    late e q = delayed_at D (λ k. x (u * k + r)) m e q ∙ sym (delayed_at (u * D) x (u * m + r) (u * e + r) (omega (arith, ap (λ (v : ℕ). u * v) q)))

-- ---- one row

-- a store of D elements after m have passed, newest first
abbrev pub Held : ℕ → ℕ → (ℕ → ℕ) → (ℕ → ℕ) → Type 0
Held D m x s = (j : ℕ) → j < D → s j ≡ delayed (suc j) x m

module _ (D m : ℕ) (x s a : ℕ → ℕ) (held : Held D m x s) (now : (k : ℕ) → k < 11 → a k ≡ x (m + k)) where
  row_out : (k : ℕ) → k < 11 → cond (ltb k D) (s (D - suc k)) (a (k - D)) ≡ delayed D x (m + k)
  row_out k h =
      ⊎_elim
      (λ (l : k < D). ap (λ (b : Bool). cond b (s (D - suc k)) (a (k - D))) (lt-ltb k D l) ∙ held (D - suc k) (omega arith)
      ∙ delayed_same (suc (D - suc k)) D x m (m + k) (omega arith))
      (λ (l : D ≤ k). ap (λ (b : Bool). cond b (s (D - suc k)) (a (k - D))) (le-ltb k D l) ∙ now (k - D) (omega arith)
      ∙ sym (delayed_at D x (m + k) (m + (k - D)) (omega arith))) (lt_or_le k D)

  row_next : (j : ℕ) → j < D → cond (ltb j 11) (a (11 - suc j)) (s (j - 11)) ≡ delayed (suc j) x (m + 11)
  row_next j h =
      ⊎_elim
      (λ (l : j < 11). ap (λ (b : Bool). cond b (a (11 - suc j)) (s (j - 11))) (lt-ltb j 11 l) ∙ now (11 - suc j) (omega arith)
      ∙ sym (delayed_at (suc j) x (m + 11) (m + (11 - suc j)) (omega arith)))
      (λ (l : 11 ≤ j). ap (λ (b : Bool). cond b (a (11 - suc j)) (s (j - 11))) (le-ltb j 11 l) ∙ held (j - 11) (omega arith)
      ∙ delayed_same (suc (j - 11)) (suc j) x m (m + 11) (omega arith)) (lt_or_le j 11)

-- ---- three rows

-- the rows lie apart in the store: what the law of a lane asks of them
unfoldable pub Apart : Rows → Type 0
Apart R = (r j : ℕ) → r < 3 → j < R.depth r → (R.start r + j < 18) × (row_at R (R.start r + j) ≡ r)

-- so do two rows that fill it, the third holding nothing
pub fills_apart : {R : Rows} {r : ℕ} → FillStore R r → Apart R
unfolding Apart
fills_apart {R} {r = zero} F zero j hr hj = (omega arith, rw (lt-ltb (R.start 0 + j) (R.start 1) (omega arith)))
fills_apart {R} {r = zero} F (suc zero) j hr hj =
    (omega arith, rw (le-ltb (R.start 1 + j) (R.start 1) (omega arith), lt-ltb (R.start 1 + j) (R.start 1 + R.depth 1) (omega arith)))
fills_apart {R} {r = zero} F (suc (suc zero)) j hr hj = absurd (omega arith)
fills_apart {R} {r = suc zero} F zero j hr hj = absurd (omega arith)
fills_apart {R} {r = suc zero} F (suc zero) j hr hj =
    (omega arith, rw (le-ltb (R.start 1 + j) (R.start 1) (omega arith), lt-ltb (R.start 1 + j) (R.start 1 + R.depth 1) (omega arith)))
fills_apart {R} {r = suc zero} F (suc (suc zero)) j hr hj =
    (omega arith, rw (le-ltb (R.start 2 + j) (R.start 1) (omega arith), le-ltb (R.start 2 + j) (R.start 1 + R.depth 1) (omega arith)))
fills_apart {R} {r = suc (suc r)} F q j hr hj = absurd (omega arith)
fills_apart {R} {r} F (suc (suc (suc q))) j hr hj = absurd (omega arith)

pub sender_apart : Apart sender
sender_apart = fills_apart {r = 1} (record { row = omega arith; first = refl; second = refl; whole = refl; other = refl })

pub receiver_apart : Apart receiver
receiver_apart = fills_apart {r = 0} (record { row = omega arith; first = refl; second = refl; whole = refl; other = refl })

-- one element of each block of a lane, over a run of n frames: the frames' blocks in and out, and the store's
pub record Run (R : Rows) (n : ℕ) (ins outs stores : ℕ → ℕ → ℕ) : Type 0 where
  pub fresh : (j : ℕ) → j < 18 → stores 0 j ≡ 0
  pub out : (f b : ℕ) → f < n → b < 33
      → outs f b ≡ cond (ltb (b / 3) (R.depth (b % 3))) (stores f (R.start (b % 3) + (R.depth (b % 3) - suc (b / 3))))
      (ins f (3 * (b / 3 - R.depth (b % 3)) + b % 3))
  pub next : (f j : ℕ) → f < n → j < 18
      → stores (suc f) j ≡ cond (ltb (j - R.start (row_at R j)) 11) (ins f (3 * (11 - suc (j - R.start (row_at R j))) + row_at R j))
      (stores f (R.start (row_at R j) + (j - R.start (row_at R j) - 11)))

module _ (R : Rows) (apart : Apart R) (n : ℕ) (ins outs stores : ℕ → ℕ → ℕ) (run : Run R n ins outs stores)
    (x : ℕ → ℕ) (cut : (f b : ℕ) → f < n → b < 33 → ins f b ≡ x (33 * f + b)) where
  row_cut : (f r k : ℕ) → f < n → r < 3 → k < 11 → ins f (3 * k + r) ≡ x (3 * (11 * f + k) + r)
  row_cut f r k hf hr hk = cut f (3 * k + r) hf (omega arith) ∙ ap x (omega arith)

  -- what each row holds before frame f
  pub row_kept : (f r : ℕ) → f ≤ n → r < 3 → Held (R.depth r) (11 * f) (λ k. x (3 * k + r)) (λ j. stores f (R.start r + j))
  unfolding Apart
  row_kept zero r h hr j hj = run.fresh (R.start r + j) (apart r j hr hj).0 ∙ sym (delayed_early (suc j) (λ k. x (3 * k + r)) (11 * 0) (omega arith))
  row_kept (suc f) r h hr j hj =
      let q : row_at R (R.start r + j) ≡ r = (apart r j hr hj).1 in
      let d : R.start r + j - R.start r ≡ j = omega arith in
      run.next f (R.start r + j) h (apart r j hr hj).0
      ∙ rw (q, d)
      (row_next (R.depth r) (11 * f) (λ k. x (3 * k + r)) (λ i. stores f (R.start r + i)) (λ k. ins f (3 * k + r)) (row_kept f r (omega arith) hr)
      (λ i l. row_cut f r i h hr l) j hj
      ∙ ap (delayed (suc j) (λ k. x (3 * k + r))) (omega arith))

  -- the block rule
  pub run_law : (f b : ℕ) → f < n → b < 33 → outs f b ≡ delayed (3 * R.depth ((33 * f + b) % 3)) x (33 * f + b)
  run_law f b hf h =
      let r : ℕ = b % 3 in
      run.out f b hf h
      ∙ row_out (R.depth r) (11 * f) (λ k. x (3 * k + r)) (λ i. stores f (R.start r + i)) (λ k. ins f (3 * k + r)) (row_kept f r (omega arith) (omega arith))
      (λ i l. row_cut f r i hf (omega arith) l) (b / 3) (omega arith)
      ∙ delayed_grain 3 r (R.depth r) (11 * f + b / 3) x (omega arith)
      ∙ ap₂ (λ (q m : ℕ). delayed (3 * R.depth q) x m) (omega arith) (omega arith)
