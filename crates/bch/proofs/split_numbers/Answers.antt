-- `bch::split_numbers` meets its contract: the numbers before number i are split. Assumes nothing.
use mathlib.Core.Logic.{◌≢◌}
use Prim.Native.Nat.{◌<◌}
use native.Mathlib.Omega.{arith}
use borrow.Author.Count.{below_more}
use lib.ListN.{length, length-set}
use lib.Seq.{get_or-set_same, get_or-set_other}
use Rattle.bch.proofs.split_numbers.Goals as goal

pub loop-i-preserved : goal.loop-i-preserved
loop-i-preserved c =
    let at = c.loop-i in
    let room : at.i < length at.out = omega arith in
    record {
      long = simp length-set at.invariant.long;
      split =
          below_more _ _ (λ k h. let ne : k ≢ at.i = omega arith in rw get_or-set_other (at.invariant.split k h))
          (rw get_or-set_same c.digits_of.ensures);
    }
