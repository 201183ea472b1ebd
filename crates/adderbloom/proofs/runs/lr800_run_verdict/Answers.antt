-- `adderbloom::runs::lr800_run_verdict` meets its contract: the number of the verdict. Assumes nothing.
use mathlib.Core.Path.{ap, ◌∙◌}
use Rattle.account.specs.definitions.Account.{verdict_number}
use Rattle.bench.specs.definitions.Run.{verdict_of}
use Rattle.adderbloom.proofs.runs.lr800_run_verdict.Goals as goal

pub returns : goal.returns
returns c = c.from-2.ensures ∙ ap verdict_number (c.verdict.ensures ∙ ap verdict_of c.from.ensures)
