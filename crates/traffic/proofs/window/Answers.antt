-- `traffic::window` meets its contract: `window_law`. Assumes nothing.
use native.Mathlib.Omega.{arith}
use Rattle.traffic.proofs.Windows.{window_law}
use Rattle.traffic.proofs.window.Goals as goal

pub returns : goal.returns
returns c = window_law c.args.a c.args.b c.args.k (omega arith) c.requires
