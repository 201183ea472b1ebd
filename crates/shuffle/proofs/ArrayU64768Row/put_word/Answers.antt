-- A row of numbers gets a word: `numbers_put`. Assumes nothing.
use borrow.Author.Rules.{rules}
use Rattle.shuffle.proofs.Rows.{numbers_put}
use Rattle.shuffle.proofs.ArrayU64768Row.put_word.Goals as goal

pub returns : goal.returns
returns c = numbers_put (search rules) c.requires.0 c.requires.1 (search rules)
