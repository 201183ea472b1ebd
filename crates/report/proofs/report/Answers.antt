-- `report::report` meets its contract: a buffer that is too small, and one that is not. Assumes nothing.
use mathlib.Core.Path.{◌∙◌}
use Rattle.report.proofs.Writing.{none_written, all_written}
use Rattle.report.proofs.report.Goals as goal

pub returns-then-out-bytes-clause-written : goal.returns-then-out-bytes-clause-written
returns-then-out-bytes-clause-written c =
    none_written c.args.run c.args.out.now (c.as_slice-bytes.ensures.value ∙ c.text-report.ensures) c.if-out-bytes.true

pub returns-clause-written : goal.returns-clause-written
returns-clause-written c =
    all_written c.args.run c.args.out.now (c.as_slice-bytes.ensures.value ∙ c.text-report.ensures) c.copy_from_slice.ensures.after
    c.if-out-bytes.false
