-- `bch::remainders` meets its contract: the words folded, their digits, and the remainders of these. Assumes nothing.
use Rattle.bch.proofs.Digits.{remainders_law}
use Rattle.bch.proofs.Folding.{folded_words}
use Rattle.bch.proofs.remainders.Goals as goal

pub returns : goal.returns
returns c =
    let folds = folded_words 64 c.fold_words-uppers.ensures.folded_words (λ w v p. p.1) in
    let rests = c.digit_remainders in
    (c.trim_words.ensures, remainders_law _ _ folds c.split_numbers.ensures rests.array_long rests.ensures)
