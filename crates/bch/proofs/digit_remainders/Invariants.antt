-- `bch::digit_remainders` meets its contract: the remainders before place i stand. Assumes nothing.
use mathlib.Core.Path.{◌≡◌}
use mathlib.Core.List.{[]}
use Prim.Native.Nat.{ℕ, ◌<◌}
use lib.ListN.{get_or}
use Rattle.bch.specs.definitions.Code.{remainder}
use Rattle.bch.specs.private.Digits.{of_digits}
use Rattle.bch.proofs.digit_remainders.Given as goal

abbrev pub invariant-loop-i : goal.invariant-loop-i
invariant-loop-i l = (k : ℕ) → k < l.i → get_or l.out k 0 ≡ remainder 64 (of_digits (get_or l.numbers k []))
