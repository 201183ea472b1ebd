-- `bch::parity` meets its contract: the remainder of the word without its parity bits. Assumes nothing.
use borrow.Author.Rules.{rules}
use Rattle.bch.proofs.Sent.{parity_law}
use Rattle.bch.proofs.parity.Goals as goal

pub returns : goal.returns
returns c = parity_law _ _ _ _ (search rules) c.folded.ensures c.remainder.ensures
