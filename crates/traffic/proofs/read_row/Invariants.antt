-- The loop of `traffic::read_row`: the first m groups are read. Assumes nothing.
use Prim.Native.Nat.{◌+◌, ◌*◌}
use Rattle.bits.proofs.Filling.{Filling}
use Rattle.traffic.specs.private.Lanes.{window_at}
use Rattle.traffic.proofs.read_row.Given as goal

abbrev pub invariant-loop-m : goal.invariant-loop-m
invariant-loop-m l = Filling (λ k. window_at l.words (320 * l.s + 40 * k)) 8 l.initial.groups l.groups l.m
