-- A row of bytes gets a word: `bytes_put`. Assumes nothing.
use borrow.Author.Rules.{rules}
use Rattle.shuffle.proofs.Rows.{bytes_put}
use Rattle.shuffle.proofs.ArrayU86144Row.put_word.Goals as goal

pub returns : goal.returns
returns c =
    let P = c.put.ensures.room (search rules) in
    let Q = c.put-2.ensures.room (search rules) in
    bytes_put c.requires.1 (search rules) P Q
