-- `traffic::exchanged` meets its contract, by `exchanged_law`. Assumes nothing.
use native.Mathlib.Omega.{arith}
use Rattle.traffic.proofs.Turning.{exchanged_law}
use Rattle.traffic.proofs.exchanged.Goals as goal

pub returns : goal.returns
returns c = exchanged_law c.args.a c.args.b c.args.n c.args.mask (omega arith)
