-- No report is longer than the room that a caller is told to lend; `proofs/Lengths` proves it.
-- Assumes nothing.
use Rattle.std.specs.Prelude.{◌≤◌, length}
use Rattle.bench.specs.declared.Run.{Run}
use Rattle.report.specs.definitions.Report.{text, longest}

-- no report is longer
abbrev pub ReportFits : Type 0
ReportFits = (run : Run) → length (text run) ≤ longest
