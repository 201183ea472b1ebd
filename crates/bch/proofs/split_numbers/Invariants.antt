-- `bch::split_numbers` meets its contract: the numbers before number i are split. Assumes nothing.
use mathlib.Core.Path.{◌≡◌}
use mathlib.Core.List.{[]}
use Prim.Native.Nat.{ℕ, ◌<◌}
use lib.ListN.{length, get_or}
use Rattle.bch.specs.private.Digits.{of_digits}
use Rattle.bch.proofs.split_numbers.Given as goal

abbrev pub invariant-loop-i : goal.invariant-loop-i
invariant-loop-i l = record {
  long : length l.out ≡ 384;
  split : (k : ℕ) → k < l.i → of_digits (get_or l.out k []) ≡ get_or l.numbers k 0;
}
