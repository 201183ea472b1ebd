-- `traffic::turned` meets its contract, by `turned_law`. Assumes nothing.
use Rattle.traffic.proofs.Turning.{turned_law}
use Rattle.traffic.proofs.turned.Goals as goal

pub returns : goal.returns
returns c = turned_law c.args.groups c.exchanged-a.ensures c.exchanged-b.ensures c.exchanged-a-2.ensures c.exchanged-c.ensures
