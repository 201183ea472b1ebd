-- The loop by which a row's blocks come out, each block a part of five bytes of the lane's 165: `TurnsOut` is its invariant.
-- Assumes nothing.
use mathlib.Core.Path.{◌≡◌, sym, ap, ◌∙◌}
use mathlib.Core.List.{List, ◌++◌}
use Prim.Native.Nat.{ℕ, ◌+◌, ◌-◌, ◌*◌, ◌/◌, ◌%◌, ◌<◌, ◌≤◌, zero-le}
use native.Mathlib.Decide.{ℕ_discrete, dec_lt}
use native.Mathlib.Omega.{arith}
use lib.ListN.{get_or, length, take, drop, length-take, length-drop}
use lib.Seq.{get_or-take, take_at}
use borrow.Author.Tests.{le-ltb}
use Rattle.std.proofs.lemmas.List.{drop_at}
use Rattle.bits.specs.definitions.Bits.{tabulate}
use Rattle.bits.proofs.Filling.{Filling}
use Rattle.bits.proofs.Parts.{part_inside, part_before, part_behind, part_length}
use Rattle.bits.proofs.Tabulate.{length_tabulate, is_tabulate}
use Rattle.lanes.specs.definitions.Interleaver.{Rows}
use Rattle.lanes.specs.private.Blocks.{FillStore, lane_of, block_of, block_byte, out_from, TurnsOut}
use Rattle.lanes.proofs.Bytewise.{block_read, front}

-- ---- turn by turn

module _ {R : Rows} {z : List ℕ} {r : ℕ} {o₀ : List ℕ} where
  -- a turn that lends the part of its block
  pub turns_step : {n : ℕ} {o : List ℕ} (i e : ℕ) (part : List ℕ) → TurnsOut R z r n o₀ o → length o₀ ≡ 165 → (r < 3) × (n < 11)
      → (i ≡ 15 * n + 5 * r) × (e ≡ i + 5) → length part ≡ length (take (e - i) (drop i o)) → part ≡ block_of z (out_from R (3 * n + r))
      → TurnsOut R z r (n + 1) o₀ (take i o ++ (part ++ drop (e - i) (drop i o)))
  turns_step {n} {o} i e part T long₀ h at lent is =
      record {
        long = part_length o part i (e - i) size room ∙ T.long;
        here = λ k l a b. here k (ℕ_discrete (k / 15) n) l a b;
        there = λ k f. there k (dec_lt k i) (dec_lt k (i + 5)) f;
      }
    where
      long : length o ≡ 165
      long = T.long ∙ long₀

      room : i + (e - i) ≤ length o
      room = omega arith

      size : length part ≡ e - i
      size = lent ∙ simp (length-take, length-drop) (omega arith)

      here : (k : ℕ) → Dec (k / 15 ≡ n) → k < 165 → k / 5 % 3 ≡ r → k / 15 < n + 1
          → get_or (take i o ++ (part ++ drop (e - i) (drop i o))) k 0 ≡ block_byte z (out_from R (k / 5)) (k % 5)
      here k (yes q) l a b =
          let j : ℕ = k % 5 in
          let x : k ≡ i + j = omega arith in
          let y : 3 * n + r ≡ k / 5 = omega arith in
          ap (λ (w : ℕ). get_or (take i o ++ (part ++ drop (e - i) (drop i o))) w 0) x ∙ part_inside o part i (e - i) size room j (omega arith)
          ∙ block_read z (out_from R (3 * n + r)) j is (omega arith) ∙ ap (λ (w : ℕ). block_byte z (out_from R w) j) y
      here k (no q) l a b = part_before o part i (e - i) size room k (omega arith) ∙ T.here k l a (omega arith)

      there : (k : ℕ) → Dec (k < i) → Dec (k < i + 5) → (k / 5 % 3 ≡ r → k / 15 < n + 1 → ⊥)
          → get_or (take i o ++ (part ++ drop (e - i) (drop i o))) k 0 ≡ get_or o₀ k 0
      there k (yes a) b f = part_before o part i (e - i) size room k a ∙ T.there k (λ x y. f x (omega arith))
      there k (no a) (yes b) f = absurd (f (omega arith) (omega arith))
      there k (no a) (no b) f = part_behind o part i (e - i) size room k (omega arith) ∙ T.there k (λ x y. f x (omega arith))

-- ---- a lane

-- where a row holds nothing, each block comes out at its own place
own_block : (R : Rows) (b : ℕ) → R.depth (b % 3) ≡ 0 → out_from R b ≡ b
unfolding out_from
own_block R b e = rw (e, le-ltb (b / 3) 0 zero-le) (omega arith)

-- two rows have come out of a lane over its own blocks, and the third holds nothing
pub lane_done : {R : Rows} {z o₀ o₁ o : List ℕ} {r : ℕ} → FillStore R r → (length o₀ ≡ 165) × (o₀ ≡ take 165 z)
    → TurnsOut R z r 11 o₀ o₁ → TurnsOut R z (r + 1) 11 o₁ o → o ≡ tabulate 165 (λ i. block_byte z (out_from R (i / 5)) (i % 5))
unfolding block_byte
lane_done {R} {z} {o₀} {o₁} {o} {r} F own T U =
    is_tabulate 0 o 165 _ (U.long ∙ T.long ∙ own.0) (λ i h. at i (ℕ_discrete (i / 5 % 3) (r + 1)) (ℕ_discrete (i / 5 % 3) r) h)
  where
    at : (i : ℕ) → Dec (i / 5 % 3 ≡ r + 1) → Dec (i / 5 % 3 ≡ r) → i < 165 → get_or o i 0 ≡ get_or z (5 * out_from R (i / 5) + i % 5) 0
    at i (yes a) b h = U.here i h a (omega arith)
    at i (no a) (yes b) h = U.there i (λ x _. a x) ∙ T.here i h b (omega arith)
    at i (no a) (no b) h =
        let e : i / 5 % 3 ≡ (r + 2) % 3 = omega arith in
        let q : i ≡ 5 * (i / 5) + i % 5 = omega arith in
        U.there i (λ x _. a x) ∙ T.there i (λ x _. b x) ∙ ap (λ (s : List ℕ). get_or s i 0) own.1 ∙ get_or-take 165 z i 0 h
        ∙ ap (λ (k : ℕ). get_or z k 0) (q ∙ ap (λ (b : ℕ). 5 * b + i % 5) (sym (own_block R (i / 5) (ap R.depth e ∙ F.other))))

-- a lane that is not reached yet has its own blocks
pub own_lane : {f : ℕ → ℕ} (x s : List ℕ) {z o₀ o : List ℕ} (p e : ℕ) → length x ≡ 5280 → o₀ ≡ x → Filling f 5280 o₀ o (165 * p)
    → (p < 32) × (e ≡ 165 * p + 165) → z ≡ lane_of x s p → take (e - 165 * p) (drop (165 * p) o) ≡ take 165 z
own_lane {f} x s {z} {o₀} {o} p e long is F h lane =
    let l : e - 165 * p ≡ 165 = omega arith in
    (λ w. take (l w) (drop (165 * p) (F.is w))) ∙ ap (take 165) (drop_at (tabulate (165 * p) f) (drop (165 * p) o₀) (165 * p) (length_tabulate (165 * p) f))
    ∙ ap (λ (t : List ℕ). take 165 (drop (165 * p) t)) is
    ∙ sym (ap (take 165) lane ∙ take_at (take 165 (drop (165 * p) x)) (take 90 (drop (90 * p) s)) 165 (front x s long p h.0))
