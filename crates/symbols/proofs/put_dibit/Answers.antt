-- `symbols::put_dibit` meets its contract: `put_dibit_law`. Assumes nothing.
use Prim.Native.Nat.{◌%◌}
use native.Mathlib.Omega.{arith}
use Rattle.symbols.proofs.Symbols.{put_dibit_law}
use Rattle.symbols.proofs.put_dibit.Goals as goal

pub returns : goal.returns
returns c = put_dibit_law c.args.x (c.args.e % 4) (c.args.t % 4) (omega arith) (omega arith)
