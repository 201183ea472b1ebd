-- `lanes::merge_blocks` meets its contract: the first i bytes are merged. Assumes nothing.
use lib.ListN.{get_or}
use Rattle.bits.proofs.Filling.{Filling}
use Rattle.lanes.specs.private.Blocks.{merged_byte}
use Rattle.lanes.proofs.merge_blocks.Given as goal

abbrev pub invariant-loop-i : goal.invariant-loop-i
invariant-loop-i l = Filling (λ k. merged_byte (get_or l.own k 0) (get_or l.partners k 0) (get_or l.row k 0)) 80 l.initial.out l.out l.i
