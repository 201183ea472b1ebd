-- `lanes::pass_lanes` meets its contract: the lanes before lane p have come out, and are kept. Assumes nothing.
use Prim.Native.Nat.{◌*◌}
use Rattle.bits.proofs.Filling.{Filling}
use Rattle.lanes.proofs.Bytewise.{out_of, kept_of}
use Rattle.lanes.proofs.pass_lanes.Given as goal

abbrev pub invariant-loop-p : goal.invariant-loop-p
invariant-loop-p g l =
    let R = g.S.Side.rows in
    record {
      comes_out : Filling (out_of R l.frame l.store) 5280 l.initial.out l.out (165 * l.p);
      is_kept : Filling (kept_of R l.frame l.store) 2880 l.initial.next l.next (90 * l.p);
    }
