-- `framing::send_frame` meets its contract: its calls' promises, one after the other. Assumes nothing.
use mathlib.Core.Path.{ap, ◌∙◌}
use Rattle.lane_words.specs.definitions.LaneWords.{lane_words}
use Rattle.bch.specs.definitions.Word.{coded_frame}
use Rattle.symbols.specs.definitions.Frame.{frame_of}
use Rattle.framing.specs.definitions.Send.{sent_frame}
use Rattle.framing.proofs.send_frame.Goals as goal

pub returns : goal.returns
unfolding sent_frame
returns c =
    let sent = c.interleave.ensures in
    record {
      frame_after = c.frame_from_words.ensures
          ∙ ap frame_of (c.encode_frame.ensures
          ∙ ap coded_frame (c.to_words.ensures ∙ ap lane_words sent.out_after));
      store_after = sent.store_after;
    }
