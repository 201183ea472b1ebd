-- `traffic::State::write_stream` meets its contract: two words by the register, then each by those before it. Assumes nothing.
use mathlib.Core.Path.{◌∙◌}
use Rattle.traffic.proofs.Stream.{two_words, second_word}
use Rattle.traffic.proofs.State.write_stream.Goals as goal

pub returns : goal.returns
returns c =
    let s = c.args.self in
    c.grow-2.ensures.streams s.bits s.within
    (c.grow.ensures.streams s.bits s.within
    (c.next_words.ensures.streams s.bits s.within
    (two_words c.args.words.now c.told-words c.first_word.ensures
    (c.first_word-2.ensures ∙ second_word s.bits c.ahead.ensures c.ahead-2.ensures c.ahead-3.ensures))))
