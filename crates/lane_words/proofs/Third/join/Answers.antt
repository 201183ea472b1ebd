-- `lane_words::Third::join` meets its contract: the numbers out of the words. Assumes nothing.
use lib.Dec.{lit<}
use Rattle.lane_words.proofs.Joining.{third_word, join_law}
use Rattle.lane_words.proofs.Third.join.Goals as goal

pub returns : goal.returns
returns c =
    let third = c.args.self in
    let at = third.bounded in
    join_law _ third.p third.t
    (third_word _ third.p third.t 0 at.0 at.1 (lit< tt) c.fits-words c.word-w0.ensures)
    (third_word _ third.p third.t 1 at.0 at.1 (lit< tt) c.fits-words c.word-w1.ensures)
    (third_word _ third.p third.t 2 at.0 at.1 (lit< tt) c.fits-words c.word-w2.ensures)
    (third_word _ third.p third.t 3 at.0 at.1 (lit< tt) c.fits-words c.word-w3.ensures)
    c.joined.ensures c.across.ensures c.joined-2.ensures c.across-2.ensures c.joined-3.ensures c.across-3.ensures c.joined-4.ensures
