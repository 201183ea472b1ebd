-- `report::verdict_name` meets its contract, case by case. Assumes nothing.
use Rattle.bits.specs.definitions.Bits.{tabulate}
use Rattle.bits.proofs.Cases.{at_case}
use Rattle.report.specs.definitions.Report.{verdict_name}
use Rattle.report.proofs.verdict_name.Goals as goal

pub returns-in-NotMeasured-clause-name : goal.returns-in-NotMeasured-clause-name
unfolding verdict_name tabulate
returns-in-NotMeasured-clause-name c = at_case verdict_name c.in-NotMeasured.is

pub returns-in-Pass-clause-name : goal.returns-in-Pass-clause-name
unfolding verdict_name tabulate
returns-in-Pass-clause-name c = at_case verdict_name c.in-Pass.is

pub returns-in-Fail-clause-name : goal.returns-in-Fail-clause-name
unfolding verdict_name tabulate
returns-in-Fail-clause-name c = at_case verdict_name c.in-Fail.is
