-- `hunt::kept_locks` meets its contract: what is asked is the oldest symbol's column. Assumes nothing.
use Rattle.std.proofs.Common.{◌+◌, ◌*◌, ◌-◌, ◌%◌, arith}
use Rattle.hunt.proofs.Taking.{column_asked}
use Rattle.hunt.proofs.kept_locks.Goals as goal

pub returns : goal.returns
returns c =
    let from = 96 * (c.args.taken % 64) in
    column_asked c.args.taken c.args.kept.now (from + 96 - from) (omega arith) (omega arith) c.locked_column.ensures
