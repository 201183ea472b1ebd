-- `lane_words::Third::split` meets its contract: the four words of a third are put in one after the other. Assumes nothing.
use Rattle.lane_words.proofs.Thirds.{split_law}
use Rattle.lane_words.proofs.Third.split.Goals as goal

pub returns : goal.returns
returns c =
    let third = c.args.self.bounded in
    split_law _ c.args.self.p c.args.self.t third.0 third.1 c.numbers.ensures
    c.joined.ensures c.put_word.ensures
    c.joined-2.ensures c.joined-3.ensures c.put_word-2.ensures
    c.joined-4.ensures c.joined-5.ensures c.put_word-3.ensures
    c.joined-6.ensures c.put_word-4.ensures c.requires
