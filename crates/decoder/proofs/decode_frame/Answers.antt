-- `decoder::decode_frame` meets its contract: what was said of the words in two numbers holds of the frame's. Assumes nothing.
use Rattle.std.proofs.Common.{◌∙◌}
use Rattle.decoder.proofs.Rows.{frame_remainders, frame_mended}
use Rattle.decoder.proofs.decode_frame.Goals as goal

pub mend_frame-requires-clause-has_remainders : goal.mend_frame-requires-clause-has_remainders
mend_frame-requires-clause-has_remainders c = frame_remainders _ c.remainders.ensures.0 c.remainders.ensures.1

pub returns : goal.returns
returns c =
    let same = frame_mended c.args.words.now c.remainders.ensures.0 c.remainders.ensures.1 in
    (c.mend_frame.ensures.0 ∙ same.0, c.mend_frame.ensures.1 ∙ same.1)
