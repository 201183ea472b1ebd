-- `lane_words::joined` meets its contract. Assumes nothing.
use Rattle.lane_words.proofs.LaneWords.{joined_law}
use borrow.Author.Rules.{rules}
use Rattle.lane_words.proofs.joined.Goals as goal

pub returns : goal.returns
returns c = joined_law c.args.x c.args.y c.args.a (search rules) (search rules)
