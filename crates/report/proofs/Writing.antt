-- A line behind what was written, and the report at the beginning of a lent buffer.
-- Assumes nothing.
use mathlib.Core.Path.{◌≡◌, refl, ap₂, ◌∙◌}
use mathlib.Core.List.{List, [], ◌∷◌, ◌++◌, append_assoc}
use Prim.Native.Nat.{ℕ, ◌≤◌, ◌<◌}
use native.Mathlib.Omega.{arith}
use lib.ListN.{length, take, drop, length-append}
use lib.Seq.{take_at}
use borrow.Author.Tests.{le-leb, lt-leb}
use Rattle.bench.specs.declared.Run.{Run}
use Rattle.report.specs.definitions.Report.{decimal, line, text, written, written_bytes}
use Rattle.bits.specs.definitions.Bits.{tabulate}

-- a name, a number and a line's end behind what was written are a line
pub line_behind : (old name : List ℕ) (n : ℕ) → ((old ++ name) ++ decimal n) ++ (10 ∷ []) ≡ old ++ line name n
unfolding tabulate
line_behind old name n = append_assoc (old ++ name) (decimal n) (10 ∷ []) ∙ append_assoc old name (decimal n ++ (10 ∷ []))

-- the report, and a buffer lent for it
module _ (run : Run) (out : List ℕ) {bytes : List ℕ} (e : bytes ≡ text run) where
  -- that is too small
  pub none_written : length out < length bytes → out ≡ written run out
  unfolding written
  none_written h = rw (lt-leb (length (text run)) (length out) (rw e at h)) refl

  -- that holds it
  pub all_written : {copy : List ℕ} → copy ≡ bytes → length bytes ≤ length out → copy ++ drop (length bytes) out ≡ written run out
  unfolding written
  all_written c h = rw (le-leb (length (text run)) (length out) (rw e at h)) (ap₂ (λ (l m : List ℕ). l ++ drop (length m) out) (c ∙ e) e)

-- in a buffer that holds every report, the text is what is written
pub text_written : (run : Run) (out left : List ℕ) (n : ℕ) → length (text run) ≤ length out → (n ≡ written_bytes run out) × (left ≡ written run out)
    → (n ≤ length left) × (take n left ≡ text run)
unfolding written_bytes written
text_written run out left n h (e, f) =
    rw (e, f, le-leb (length (text run)) (length out) h) (inside, take_at (text run) (drop (length (text run)) out) (length (text run)) refl)
  where
    inside : length (text run) ≤ length (text run ++ drop (length (text run)) out)
    inside = let l = length-append (text run) (drop (length (text run)) out) in omega arith
