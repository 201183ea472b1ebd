-- What a report of some bytes, or of none, comes to as a number.
-- Assumes nothing.
use mathlib.Core.Path.{◌≡◌, refl, ap, ◌∙◌}
use mathlib.Core.Bool.{Bool, true, false, cond}
use mathlib.Core.List.{List}
use Prim.Native.Nat.{ℕ}
use lib.ListN.{length}
use lib.Dec.{leb}
use Rattle.std.specs.Prelude.{Option, Some, None}
use Rattle.std.specs.Option.{unwrap_or}
use Rattle.bench.specs.declared.Run.{Run}
use Rattle.report.specs.definitions.Report.{text, written_bytes}

pub taken_bytes : (run : Run) (buffer : List ℕ) (taken : Option ℕ) → taken ≡ cond (leb (length (text run)) (length buffer)) (Some (length (text run))) None
    → unwrap_or taken 0 ≡ written_bytes run buffer
unfolding written_bytes
taken_bytes run buffer taken e = ap (λ (o : Option ℕ). unwrap_or o 0) e ∙ at (leb (length (text run)) (length buffer))
  where
    at : (b : Bool) → unwrap_or (cond b (Some (length (text run))) None) 0 ≡ cond b (length (text run)) 0
    at true = refl
    at false = refl
