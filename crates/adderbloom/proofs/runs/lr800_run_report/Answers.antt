-- `adderbloom::runs::lr800_run_report` meets its contract. Assumes nothing.
use mathlib.Core.Path.{ap, ◌∙◌}
use Rattle.bench.specs.declared.Run.{Run}
use Rattle.report.specs.definitions.Report.{written_bytes, written}
use Rattle.adderbloom.proofs.Calls.{taken_bytes}
use Rattle.adderbloom.proofs.runs.lr800_run_report.Goals as goal

pub returns : goal.returns
returns c =
    let x = c.args in
    let e = c.from.ensures in
    let told = c.report.ensures in (
      c.unwrap_or.ensures ∙ taken_bytes _ _ _ told.taken ∙ ap (λ (b : Run). written_bytes b x.text.now) e,
      told.written ∙ ap (λ (b : Run). written b x.text.now) e,
    )
