-- `symbols::map_bytes` meets its contract: `quarters_frame`. Assumes nothing.
use mathlib.Core.Path.{◌∙◌}
use Rattle.symbols.proofs.Symbols.{quarters_frame}
use Rattle.symbols.proofs.map_bytes.Goals as goal

pub returns : goal.returns
returns c =
    c.write_two_bytes.ensures
    ∙ quarters_frame _ _ _ _ _ _ _ c.quarter.ensures c.quarter-2.ensures c.quarter-3.ensures c.quarter-4.ensures
    c.two_bytes.ensures c.two_bytes-2.ensures
