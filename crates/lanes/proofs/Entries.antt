-- The rule of the table of masks, by a test that antt computes over the whole table.
-- Assumes nothing.
use mathlib.Core.Path.{◌≡◌, ap, ◌∙◌}
use mathlib.Core.Bool.{Bool}
use mathlib.Core.List.{List}
use Prim.Native.Nat.{ℕ, zero, suc, ◌+◌, ◌*◌, ◌/◌, ◌%◌, ◌^◌, ◌<◌}
use native.Mathlib.Omega.{arith}
use lib.Dec.{T, eqb, eqb→eq}
use lib.ListN.{get_or}
use Rattle.bits.specs.definitions.Bits.{tabulate, bit_of, number, value}
use Rattle.bits.proofs.Table.{every, table_rule}
use Rattle.bits.proofs.Tabulate.{get_d_tabulate}
use Rattle.bits.proofs.Value.{bit_number}
use Rattle.lanes.specs.definitions.Permutation.{named}
use Rattle.lanes.specs.private.Blocks.{IsMaskRow}
use Rattle.lanes.proofs.Lists.{masks}

mask_ok : ℕ → ℕ → Bool
mask_ok i x = eqb x (number 8 (λ k. i / 5 / 2 ^ ((8 * (i % 5) + k) / 10) % 2))

mask_test : T (every mask_ok 0 masks)
unfolding mask_ok value
mask_test = tt

pub named_16 : (x s : ℕ) → s < 4 → named (x % 16) s ≡ named x s
unfolding named
named_16 x s h = ap (λ (b : ℕ). eqb b 1) (go s h)
  where
    go : (s : ℕ) → s < 4 → x % 16 / 2 ^ s % 2 ≡ x / 2 ^ s % 2
    go zero h = omega arith
    go (suc zero) h = omega arith
    go (suc (suc zero)) h = omega arith
    go (suc (suc (suc zero))) h = omega arith
    go (suc (suc (suc (suc s)))) h = absurd (omega arith)

-- bit k of byte c of a block lies in symbol (8 c + k) / 10, which is exchanged if the set named e has its place
entry : (e c k : ℕ) → e < 16 → c < 5 → k < 8 → eqb (bit_of 8 (get_or masks (5 * e + c) 0) k) 1 ≡ named e ((8 * c + k) / 10)
unfolding mask_ok named
entry e c k he hc hk =
    let i : ℕ = 5 * e + c in
    let d : i / 5 ≡ e = omega arith in
    let r : i % 5 ≡ c = omega arith in
    let f : ℕ → ℕ = λ k. i / 5 / 2 ^ ((8 * (i % 5) + k) / 10) % 2 in
    ap (λ (x : ℕ). eqb x 1)
    (ap (λ (x : ℕ). bit_of 8 x k) (eqb→eq (get_or masks i 0) (number 8 f) (table_rule mask_ok masks mask_test i (omega arith)))
    ∙ bit_number 8 f (λ q l. omega arith) k hk
    ∙ (λ z. d z / 2 ^ ((8 * r z + k) / 10) % 2))

-- one set's five masks, for sixteen blocks
pub is_mask_row : (x : ℕ) {row : List ℕ} → row ≡ tabulate 80 (λ i. get_or masks (5 * (x % 16) + i % 5) 0) → IsMaskRow (named x) row
is_mask_row x {row} is =
    record {
      bit = λ i k hi hk.
          let e : get_or row i 0 ≡ get_or masks (5 * (x % 16) + i % 5) 0 =
          ap (λ (l : List ℕ). get_or l i 0) is ∙ get_d_tabulate 80 (λ i. get_or masks (5 * (x % 16) + i % 5) 0) i 0 hi in
          ap (λ (m : ℕ). eqb (bit_of 8 m k) 1) e ∙ entry (x % 16) (i % 5) k (omega arith) (omega arith) hk
          ∙ named_16 x ((8 * (i % 5) + k) / 10) (omega arith);
    }
