-- `demapping::Room::sixteen_rows` meets its contract: `rows_gathered`. Assumes nothing.
use native.Mathlib.Omega.{arith}
use lib.ListN.{length}
use Rattle.demapping.proofs.Gathering.{halves_are, rows_gathered}
use Rattle.demapping.proofs.Room.sixteen_rows.Goals as goal

pub returns : goal.returns
returns c =
    let room = c.args.self.now in
    rows_gathered c.args.s.now _ _ (length room.two) (omega arith) c.part_bytes.ensures
    (halves_are _ room.four (omega arith) c.part_bytes-2.ensures c.part_bytes-3.ensures) _ c.rows.ensures
