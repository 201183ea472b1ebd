-- `adderbloom::captures::lr800_examine` meets its contract: the report of the run that the capture comes to. Assumes nothing.
use mathlib.Core.Path.{ap, ◌∙◌}
use Rattle.bench.specs.declared.Run.{Run}
use Rattle.report.specs.definitions.Report.{written_bytes, written}
use Rattle.adderbloom.proofs.Calls.{taken_bytes}
use Rattle.adderbloom.proofs.captures.lr800_examine.Goals as goal

pub returns : goal.returns
returns c =
    let x = c.args in
    let e = c.examine_capture.ensures in
    let told = c.report.ensures in (
      c.unwrap_or.ensures ∙ taken_bytes _ _ _ told.taken ∙ ap (λ (b : Run). written_bytes b x.text.now) e,
      told.written ∙ ap (λ (b : Run). written b x.text.now) e,
    )
