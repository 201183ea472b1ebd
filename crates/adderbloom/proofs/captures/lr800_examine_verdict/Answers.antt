-- `adderbloom::captures::lr800_examine_verdict` meets its contract: the number of the verdict. Assumes nothing.
use mathlib.Core.Path.{ap, ◌∙◌}
use Rattle.account.specs.definitions.Account.{verdict_number}
use Rattle.bench.specs.definitions.Run.{verdict_of}
use Rattle.adderbloom.proofs.captures.lr800_examine_verdict.Goals as goal

pub returns : goal.returns
returns c = c.from.ensures ∙ ap verdict_number (c.verdict.ensures ∙ ap verdict_of c.examine_capture.ensures)
