-- What specs/statements/Pilots states: table 5 is what table 4 produces, its bytes are four labels each, and only outer levels occur in it. All three are
-- tests that antt computes.
-- Assumes nothing.
use mathlib.Core.Path.{◌≡◌, refl}
use mathlib.Core.Bool.{Bool}
use mathlib.Core.Logic.{◌⊎◌, inl, inr}
use Prim.Native.Nat.{ℕ, zero, suc, ◌+◌, ◌*◌, ◌%◌, ◌<◌}
use native.Mathlib.Omega.{arith}
use lib.Dec.{T, eqb, eqb→eq}
use lib.IntN.{pos, negsuc}
use lib.ListN.{get_or}
use Rattle.bits.specs.definitions.Bits.{tabulate}
use Rattle.bits.proofs.Table.{each, range_rule}
use Rattle.std.proofs.Common.{Some}
use Rattle.pilots.specs.definitions.Levels.{level_of}
use Rattle.pilots.specs.definitions.Table5.{pilots}
use Rattle.pilots.specs.definitions.Pilots.{register_next, leaves, labels_of, pilot_of, pilot_label}
use Rattle.pilots.specs.statements.Pilots.{TablesAgree, PilotLabels, OuterLevels}

-- table 5 is what the polynomial and the seeds of table 4 produce
pub tables_agree : TablesAgree
unfolding pilots tabulate pilot_of labels_of leaves register_next
tables_agree = refl

labels_ok : ℕ → Bool
labels_ok k = eqb (get_or pilots k 0) (((pilot_label k 0 * 4 + pilot_label k 1) * 4 + pilot_label k 2) * 4 + pilot_label k 3)

labels_test : T (each labels_ok 96 0)
unfolding labels_ok pilots pilot_label
labels_test = tt

pub pilot_labels : PilotLabels
unfolding labels_ok
pilot_labels k h = eqb→eq _ _ (range_rule labels_ok 96 0 labels_test k (omega arith) (omega arith))

outer_ok : ℕ → Bool
outer_ok k = each (λ t. eqb (pilot_label k t % 2) 0) 4 0

outer_test : T (each outer_ok 96 0)
unfolding outer_ok pilots pilot_label
outer_test = tt

-- only outer levels occur
pub outer_levels : OuterLevels
unfolding outer_ok level_of pilot_label
outer_levels k t h l =
    go (pilot_label k t) (omega arith)
    (eqb→eq (pilot_label k t % 2) 0
    (range_rule (λ t. eqb (pilot_label k t % 2) 0) 4 0 (range_rule outer_ok 96 0 outer_test k (omega arith) (omega arith)) t (omega arith) (omega arith)))
  where
    go : (n : ℕ) → n < 4 → n % 2 ≡ 0 → (level_of n ≡ Some (negsuc 2)) ⊎ (level_of n ≡ Some (pos 3))
    go zero b e = inl refl
    go (suc zero) b e = absurd (omega arith)
    go (suc (suc zero)) b e = inr refl
    go (suc (suc (suc n))) b e = absurd (omega arith)
