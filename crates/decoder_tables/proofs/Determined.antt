-- Each public function's contract fixes its outcome: two outcomes of one call that satisfy its `ensures`, as the source states it, are equal. And of
-- `Locator::new`, of which the type says all, the rule of each table: that of `columns` and that of `single_bits` fix every entry. The other six are the
-- exception: their rule `Finds` fixes what the look-ups lead to, which is all that decoding asks, and not the entries.
-- Assumes nothing.
use mathlib.Core.Path.{◌≡◌, sym, ap, ◌∙◌}
use mathlib.Core.HLevel.{is_prop→PathP}
use mathlib.Core.Logic.{◌⊎◌, inl, inr}
use mathlib.Core.List.{List}
use Prim.Native.Nat.{ℕ, ◌+◌, ◌*◌, ◌/◌, ◌%◌, ◌^◌, ◌<◌}
use native.Mathlib.Omega.{arith}
use lib.Arith.{digits_div, digits_mod}
use lib.ListN.{length, get_or}
use lib.Seq.{ext_get_or}
use Rattle.bits.proofs.Xor.{bit_cases}
use Rattle.bits.proofs.Fixes.{Fixes}
use Rattle.decoder_tables.specs.contracts.Pair.{within-found}
use Rattle.decoder_tables.specs.declared.Locator.{Locator}
use Rattle.decoder_tables.specs.declared.Pair.{Pair}
use Rattle.decoder_tables.specs.private.Tables.{single, IsSingleBits}
use Rattle.decoder_tables.proofs.Locator.flip.Kinds as flip-kinds
use Rattle.decoder_tables.proofs.Locator.flip.Reads as flip-reads
use Rattle.decoder_tables.proofs.Locator.places.Kinds as places-kinds
use Rattle.decoder_tables.proofs.Locator.places.Reads as places-reads
use Rattle.decoder_tables.proofs.Locator.remainder.Kinds as remainder-kinds
use Rattle.decoder_tables.proofs.Locator.remainder.Reads as remainder-reads

-- a struct or a number, and no buffer
alike : (x y : Pair) → x.first ≡ y.first → x.second ≡ y.second → x ≡ y
alike x y p q =
    λ k.
    record {
      first = p k;
      second = q k;
      within = is_prop→PathP (λ j. _) (λ j. within-found (p j) (q j)) x.within y.within k;
    }

pub places_determined : Fixes 2 places-kinds.ps places-kinds.r places-reads.Post (λ κs s t. Unit)
places_determined κs a x y s t p q = (alike x y (ap (λ (v : ℕ × ℕ). v.0) (p ∙ sym q)) (ap (λ (v : ℕ × ℕ). v.1) (p ∙ sym q)), tt)

pub remainder_determined : Fixes 2 remainder-kinds.ps remainder-kinds.r remainder-reads.Post (λ κs s t. Unit)
remainder_determined κs a x y s t p q = (p ∙ sym q, tt)

pub flip_determined : Fixes 2 flip-kinds.ps flip-kinds.r flip-reads.Post (λ κs s t. Unit)
flip_determined κs a x y s t p q = ((λ k. record { hi = (p.0 ∙ sym q.0) k; lo = (p.1 ∙ sym q.1) k }), tt)

-- two locators have the same remainders of single bits
pub columns_determined : (x y : Locator) → length x.arrays.now.columns ≡ 128 → length y.arrays.now.columns ≡ 128
    → x.arrays.now.columns ≡ y.arrays.now.columns
columns_determined x y lx ly =
    ext_get_or 0 x.arrays.now.columns y.arrays.now.columns (lx ∙ sym ly)
    (λ k h. x.are_columns.entry k (omega arith) ∙ sym (y.are_columns.entry k (omega arith)))

-- the two numbers of a single bit
upper : (t : List ℕ) → IsSingleBits t → (i : ℕ) → i < 128 → get_or t (2 * i) 0 ≡ single i / 2 ^ 64
upper t B i h = sym (digits_div (get_or t (2 * i) 0) (B.small i h)) ∙ ap (λ (n : ℕ). n / 2 ^ 64) (B.entry i h)

lower : (t : List ℕ) → IsSingleBits t → (i : ℕ) → i < 128 → get_or t (2 * i + 1) 0 ≡ single i % 2 ^ 64
lower t B i h = sym (digits_mod (get_or t (2 * i) 0) (B.small i h)) ∙ ap (λ (n : ℕ). n % 2 ^ 64) (B.entry i h)

-- and the same single bits
pub single_bits_determined : (x y : Locator) → length x.arrays.now.single_bits ≡ 256 → length y.arrays.now.single_bits ≡ 256
    → x.arrays.now.single_bits ≡ y.arrays.now.single_bits
single_bits_determined x y lx ly = ext_get_or 0 t u (lx ∙ sym ly) (λ k h. same k (omega arith) (bit_cases (k % 2) (omega arith)))
  where
    t : List ℕ
    t = x.arrays.now.single_bits

    u : List ℕ
    u = y.arrays.now.single_bits

    p : IsSingleBits t
    p = x.are_single_bits

    q : IsSingleBits u
    q = y.are_single_bits

    same : (k : ℕ) → k < 256 → (k % 2 ≡ 0) ⊎ (k % 2 ≡ 1) → get_or t k 0 ≡ get_or u k 0
    same k h (inl e) = let f : k ≡ 2 * (k / 2) = omega arith in rw f (upper t p (k / 2) (omega arith) ∙ sym (upper u q (k / 2) (omega arith)))
    same k h (inr e) = let f : k ≡ 2 * (k / 2) + 1 = omega arith in rw f (lower t p (k / 2) (omega arith) ∙ sym (lower u q (k / 2) (omega arith)))
