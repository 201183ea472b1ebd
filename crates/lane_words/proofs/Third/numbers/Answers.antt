-- `lane_words::Third::numbers` meets its contract: each number is read. Assumes nothing.
use borrow.Author.Rules.{rules}
use Rattle.lane_words.proofs.Thirds.{numbers_law}
use Rattle.lane_words.proofs.Third.numbers.Goals as goal

pub returns : goal.returns
returns c =
    let third = c.args.self in
    numbers_law c.args.lanes.now third.p third.t _ c.told-lanes third.bounded.0 third.bounded.1 c.from_fn.ensures.items.long
    (search rules) (search rules) (search rules) (search rules) (search rules) (search rules) (search rules)
