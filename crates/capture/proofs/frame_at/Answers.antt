-- `capture::frame_at` meets its contract: the number and the places, by the record's bytes. Assumes nothing.
use Rattle.std.proofs.Common.{arith}
use Rattle.capture.proofs.Cases.{number_found, frame_of}
use Rattle.capture.proofs.frame_at.Goals as goal

pub returns : goal.returns
returns c =
    let found = c.in_ok-record.ensures in
    frame_of _ _ _ _ found.refusal found.bytes (number_found _ 6 6148 _ (omega arith) c.unwrap.ensures c.number_of.ensures)
