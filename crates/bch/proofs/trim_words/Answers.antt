-- `bch::trim_words` meets its contract: nothing stands above the words before number i, which is the upper one of a word. Assumes nothing.
use mathlib.Core.Path.{◌≡◌, refl}
use Prim.Native.Nat.{◌+◌, ◌%◌}
use native.Mathlib.Omega.{arith}
use borrow.Author.Rules.{rules}
use Rattle.bits.proofs.Words.{row_start, row_done}
use Rattle.bch.proofs.Folding.{trimmed_step, row_own}
use Rattle.bch.proofs.trim_words.Goals as goal

pub returns-then-uppers-lt-TWO_62 : goal.returns-then-uppers-lt-TWO_62
returns-then-uppers-lt-TWO_62 c = row_own _ c.requires (omega arith) (search rules)

pub loop-i-init : goal.loop-i-init
loop-i-init c = (refl, row_start _ (search rules))

pub loop-i-preserved : goal.loop-i-preserved
loop-i-preserved c =
    let at = c.loop-i in
    let even : at.i % 2 ≡ 0 = at.invariant.0 in
    let next : (at.i + 2) % 2 ≡ 0 = omega (arith, even) in
    (next, trimmed_step even at.invariant.1 (omega arith) (c.requires.number (at.i + 1)))

pub returns : goal.returns
returns c = row_done _ c.loop-i.invariant.1 (omega arith)
