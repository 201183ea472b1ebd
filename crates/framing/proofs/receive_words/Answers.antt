-- `framing::receive_words` meets its contract: the outcome where both tests passed. Assumes nothing.
use Rattle.std.proofs.Common.{rules}
use Rattle.framing.specs.definitions.Receive.{words_number, received_flags}
use Rattle.framing.proofs.receive_words.Goals as goal

pub returns : goal.returns
unfolding words_number received_flags
returns c =
    let frame = rw c.in_ok-frame.ensures.ok_part at c.as_array.ensures.cases in
    search rules
