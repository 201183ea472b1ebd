-- The report at the beginning of a buffer that holds every one.
-- Assumes nothing.
use mathlib.Core.Path.{◌≡◌, refl, sym}
use mathlib.Core.List.{List}
use Prim.Native.Nat.{ℕ, ◌≤◌}
use native.Mathlib.Omega.{arith}
use lib.ListN.{length, take, drop}
use lib.Seq.{take_at}
use borrow.Author.Tests.{le-leb}
use Rattle.std.specs.Prelude.{Option, Some, None, IsSome, nat_le, if◌then◌else◌}
use Rattle.bench.specs.declared.Run.{Run}
use Rattle.report.specs.definitions.Report.{text, written, longest}
use Rattle.report.proofs.Lengths.{text_fits}

module _ (run : Run) (out : List ℕ) (room : longest ≤ length out) (taken : Option ℕ)
    (e : taken ≡ (if nat_le (length (text run)) (length out) then Some (length (text run)) else None)) where
  all_taken : taken ≡ Some (length (text run))
  all_taken = let f = text_fits run in rw (e, le-leb (length (text run)) (length out) (omega arith)) refl

  pub report_taken : IsSome taken
  report_taken = rw all_taken refl

  pub report_stands : (left : List ℕ) (n : ℕ) → left ≡ written run out → taken ≡ Some n → take n left ≡ text run
  unfolding written
  report_stands left n w t =
      let f = text_fits run in
      let same : n ≡ length (text run) = cc (all_taken) in
      rw (w, le-leb (length (text run)) (length out) (omega arith)) (take_at (text run) (drop (length (text run)) out) n (sym same))
