-- A whole frame: the permutation and the moved blocks are what the definitions say of it, on the way out and on the way back.
-- Assumes nothing.
use mathlib.Core.Path.{◌≡◌, refl, sym, ap, ◌∙◌, subst}
use mathlib.Core.List.{List}
use Prim.Native.Nat.{ℕ, ◌/◌, ◌%◌, ◌<◌}
use lib.ListN.{length}
use Rattle.bits.specs.definitions.Bits.{tabulate, AllBytes}
use Rattle.bits.proofs.Fields.{length_bytes}
use Rattle.lanes.specs.definitions.Permutation.{Lanes, named, permuted, lanes_of, lane_bytes}
use Rattle.lanes.specs.definitions.Interleaver.{sender, receiver, rows_out, interleaved_frame, interleaved_store, deinterleaved_frame, deinterleaved_store}
use Rattle.lanes.proofs.Rows.{sender_apart, receiver_apart}
use Rattle.lanes.proofs.Bytewise.{out_of, kept_of, out_is, kept_is, frame_bit, frame_bytes, permuted_lt, rows_out_lt, lanes_lt, permuted_cong}

-- a frame a and its store s
module _ (e : ℕ) (a s : List ℕ) {out next : List ℕ} (S : AllBytes s) where
  -- x is the lanes after they were permuted
  pub interleave_law : {x : List ℕ} → x ≡ lane_bytes (permuted (named e) (lanes_of a)) → out ≡ tabulate 5280 (out_of sender x s)
      → next ≡ tabulate 2880 (kept_of sender x s) → (out ≡ interleaved_frame (named e) a s) × (next ≡ interleaved_store (named e) a s)
  unfolding interleaved_frame interleaved_store lane_bytes
  interleave_law {x} ex eo en = (
    eo ∙ out_is sender sender_apart x s long X S y same,
    en ∙ kept_is sender sender_apart x s long X S y same,
  )
    where
      y : Lanes
      y = permuted (named e) (lanes_of a)

      bit : (p i : ℕ) → y p i < 2
      bit = permuted_lt (named e) (lanes_of a) (lanes_lt a)

      long : length x ≡ 5280
      long = ap length ex ∙ length_bytes 5280 (λ j. y (j / 1320) (j % 1320))

      X : AllBytes x
      X = subst AllBytes (sym ex) (frame_bytes y bit)

      same : (p i : ℕ) → p < 32 → i < 1320 → lanes_of x p i ≡ y p i
      same p i hp hi = ap (λ (l : List ℕ). lanes_of l p i) ex ∙ frame_bit y bit p i hp hi

  -- y is the lanes before they are permuted
  pub deinterleave_law : {y : List ℕ} → length a ≡ 5280 → AllBytes a → y ≡ tabulate 5280 (out_of receiver a s)
      → next ≡ tabulate 2880 (kept_of receiver a s) → out ≡ lane_bytes (permuted (named e) (lanes_of y))
      → (out ≡ deinterleaved_frame (named e) a s) × (next ≡ deinterleaved_store a s)
  unfolding deinterleaved_frame deinterleaved_store
  deinterleave_law {y} long A ey en eo = (
    eo ∙ permuted_cong (named e) (named e) (lanes_of y) back (λ s h. refl) same,
    en ∙ kept_is receiver receiver_apart a s long A S (lanes_of a) (λ p i hp hi. refl),
  )
    where
      back : Lanes
      back = rows_out receiver s (lanes_of a)

      same : (p i : ℕ) → p < 32 → i < 1320 → lanes_of y p i ≡ back p i
      same p i hp hi =
          ap (λ (l : List ℕ). lanes_of l p i) (ey ∙ out_is receiver receiver_apart a s long A S (lanes_of a) (λ p i hp hi. refl))
          ∙ frame_bit back (rows_out_lt receiver s (lanes_of a) (lanes_lt a)) p i hp hi
