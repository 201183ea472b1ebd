-- `adderbloom::lr800_verdict` meets its contract: the number of the verdict. Assumes nothing.
use mathlib.Core.Path.{ap, ◌∙◌}
use Rattle.account.specs.definitions.Account.{verdict_number}
use Rattle.adderbloom.proofs.lr800_verdict.Goals as goal

pub returns : goal.returns
returns c = c.from.ensures ∙ ap verdict_number c.verdict.ensures
