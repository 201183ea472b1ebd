-- `bch::encode_frame` meets its contract: the words folded, and their parity added. Assumes nothing.
use Rattle.bch.proofs.Folding.{folded_words}
use Rattle.bch.proofs.encode_frame.Goals as goal

pub add_parity-requires : goal.add_parity-requires
add_parity-requires c = folded_words 48 c.fold_words.ensures.folded_words (λ w v p. p.1)
