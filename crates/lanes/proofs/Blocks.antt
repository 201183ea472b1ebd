-- Which blocks of a lane, of a frame with its store behind it, come out of a row and are kept by a row.
-- Assumes nothing.
use mathlib.Core.Path.{◌≡◌, sym, ap, ◌∙◌}
use mathlib.Core.Bool.{cond}
use mathlib.Core.List.{List, ◌++◌}
use Prim.Native.Nat.{ℕ, suc, ◌+◌, ◌*◌, ◌-◌, ◌/◌, ◌%◌, ◌≤◌, ◌<◌}
use native.Mathlib.Omega.{arith}
use lib.Dec.{ltb}
use lib.ListN.{length, take, drop, length-take}
use lib.Seq.{drop-append-add, take-take}
use Rattle.std.specs.Array.{IsFirstChunk}
use borrow.Author.Tests.{lt-ltb, le-ltb}
use Rattle.lanes.specs.definitions.Interleaver.{Rows, row_at}
use Rattle.lanes.specs.private.Blocks.{block_of, out_from, kept_from}
use Rattle.lanes.proofs.Rows.{Apart}

-- the first n of the bytes from one on
pub first_part : (x : List ℕ) (at k n : ℕ) {ys : List ℕ} → IsFirstChunk (take k (drop at x)) ys n → ys ≡ take n (drop at x)
first_part x at k n is = is.same ∙ take-take n k (drop at x) (omega (arith, is.enough, length-take k (drop at x)))

-- a block of the store, which stands behind the frame's 33
pub store_block : (f s : List ℕ) {z : List ℕ} (q : ℕ) → f ++ s ≡ z → length f ≡ 165 → block_of s q ≡ block_of z (33 + q)
store_block f s {z} q is long =
    let e : length f + 5 * q ≡ 5 * (33 + q) = omega arith in
    ap (take 5) (sym (drop-append-add f s (5 * q)) ∙ ap (λ (n : ℕ). drop n (f ++ s)) e ∙ ap (drop (5 * (33 + q))) is)

-- what comes out of row r at turn t: a block of the store, or one of the frame's
module _ (R : Rows) (r t : ℕ) (hr : r < 3) where
  out_at : out_from R (3 * t + r) ≡ cond (ltb t (R.depth r)) (33 + (R.start r + (R.depth r - suc t))) (3 * (t - R.depth r) + r)
  unfolding out_from
  out_at =
      let e : (3 * t + r) / 3 ≡ t = omega arith in
      let f : (3 * t + r) % 3 ≡ r = omega arith in
      λ z. cond (ltb (e z) (R.depth (f z))) (33 + (R.start (f z) + (R.depth (f z) - suc (e z)))) (3 * (e z - R.depth (f z)) + f z)

  pub out_stored : {s d : ℕ} → s ≡ R.start r → d ≡ R.depth r → t < d → 33 + (s + (d - 1 - t)) ≡ out_from R (3 * t + r)
  out_stored {s} {d} es ed h = rw (out_at, ← ed, ← es, lt-ltb t d h) (omega arith)

  pub out_entered : {d : ℕ} → d ≡ R.depth r → d ≤ t → 3 * (t - d) + r ≡ out_from R (3 * t + r)
  out_entered {d} ed h = rw (out_at, ← ed, le-ltb t d h)

-- what row r keeps at place q: one of the frame's blocks, or one of the store's
module _ (R : Rows) (apart : Apart R) (r q : ℕ) (hr : r < 3) (hq : q < R.depth r) where
  kept_at : kept_from R (R.start r + q) ≡ cond (ltb q 11) (3 * (11 - suc q) + r) (33 + (R.start r + (q - 11)))
  unfolding Apart kept_from
  kept_at =
      let e : row_at R (R.start r + q) ≡ r = (apart r q hr hq).1 in
      let f : R.start r + q - R.start r ≡ q = omega arith in
      rw (e, f)

  pub kept_entered : q < 11 → 3 * (10 - q) + r ≡ kept_from R (R.start r + q)
  kept_entered h = rw (kept_at, lt-ltb q 11 h) (omega arith)

  pub kept_stored : {s : ℕ} → s ≡ R.start r → 11 ≤ q → 33 + (s + (q - 11)) ≡ kept_from R (R.start r + q)
  kept_stored es h = rw (kept_at, le-ltb q 11 h, es)
