-- `report::put` meets its contract: behind what was written, the bytes that came. Assumes nothing.
use Rattle.std.proofs.Common.{◌≡◌, ◌++◌, take}
use Rattle.report.proofs.put.Given as goal

abbrev pub invariant-loop-byte : goal.invariant-loop-byte
invariant-loop-byte l = l.report.items ≡ l.initial.report.items ++ take l.byte-index l.text
