-- `capture::order_at` meets its contract: the numbers, by the record's bytes. Assumes nothing.
use Rattle.std.proofs.Common.{arith}
use Rattle.capture.proofs.Cases.{number_found, order_of}
use Rattle.capture.proofs.order_at.Goals as goal

pub returns : goal.returns
returns c =
    let found = c.in_ok-record.ensures in
    order_of _ _ _ _ _ _ found.refusal found.bytes (number_found _ 6 12 _ (omega arith) c.unwrap.ensures c.number_of.ensures)
    (number_found _ 10 8 _ (omega arith) c.unwrap-2.ensures c.number_of-2.ensures)
    (number_found _ 14 4 _ (omega arith) c.unwrap-3.ensures c.number_of-3.ensures)
