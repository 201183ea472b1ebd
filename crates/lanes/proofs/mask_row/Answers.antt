-- `lanes::mask_row` meets its contract: each byte is the table's. Assumes nothing.
use borrow.Author.Rules.{rules}
use Rattle.bits.proofs.Tabulate.{is_tabulate}
use Rattle.lanes.proofs.Entries.{is_mask_row}
use Rattle.lanes.proofs.mask_row.Goals as goal

pub returns : goal.returns
returns c = is_mask_row c.args.exchanged (is_tabulate 0 c.from_fn.result 80 _ c.from_fn.ensures.items.long (λ i h. search rules))
