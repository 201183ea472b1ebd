-- `symbols::swapped` meets its contract: the code is the definition. Assumes nothing.
use mathlib.Core.Path.{refl}
use Rattle.symbols.specs.definitions.Dibits.{swapped}
use Rattle.symbols.proofs.swapped.Goals as goal

pub returns : goal.returns
unfolding swapped
returns c = refl
