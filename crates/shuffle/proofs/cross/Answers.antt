-- `shuffle::cross` meets its contract: `cross_law`. Assumes nothing.
use Rattle.shuffle.proofs.Rotating.{cross_law}
use Rattle.shuffle.proofs.cross.Goals as goal

pub returns : goal.returns
returns c = let law = cross_law c.args.n c.args.x c.args.y c.requires.1 c.requires.0 in (law.0, rw law.0 law.1)
