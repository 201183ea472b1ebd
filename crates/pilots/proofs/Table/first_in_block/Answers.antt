-- `pilots::Table::first_in_block` meets its contract: no count is large enough, or the offsets are asked whose counts are. Assumes nothing.
use Rattle.std.proofs.Common.{◌≡◌, ◌<◌, true, false, rules, arith}
use Rattle.std.proofs.lemmas.Iterator.{first_from_Range}
use Rattle.std.proofs.lemmas.Grind.{common_steps}
use borrow.Author.Count.{below_none}
use borrow.Author.Tests.{tests}
use Rattle.pilots.specs.definitions.Pilots.{locks}
use Rattle.pilots.proofs.Blocks.{block_closed, closed_at, found_from}
use Rattle.pilots.proofs.Table.first_in_block.Goals as goal

pub returns-then-largest-lt-LEAST_RIGHT : goal.returns-then-largest-lt-LEAST_RIGHT
returns-then-largest-lt-LEAST_RIGHT c = block_closed c.args.symbols.now c.count_right-right.ensures (omega arith)

pub returns : goal.returns
returns c =
    let s = c.args.symbols.now in
    let e = c.count_right-right.ensures in
    found_from (locks s) 128 0 (below_none _) c.find.result
    (first_from_Range _ _ _ c.find.result (λ j. locks s j ≡ true) (λ j. j < 128 → locks s j ≡ false) c.find.ensures.ran (λ x q k. search (rules, tests))
    (λ x q k. grind (arith, common_steps, closed_at s x e)))
