-- `adderbloom::hunts::lr800_hunt_answer` meets its contract: the numbers of what the search says. Assumes nothing.
use mathlib.Core.Path.{ap, ◌∙◌}
use Rattle.adderbloom.specs.definitions.Found.{found_of}
use Rattle.adderbloom.proofs.hunts.lr800_hunt_answer.Goals as goal

pub returns : goal.returns
returns c = c.from.ensures ∙ ap found_of c.answer.ensures
