-- `traffic::State::generate` meets its contract: the stream's words in lanes, and the last 31 bits. Assumes nothing.
use Rattle.traffic.proofs.Placing.{lanes_frame, last_state}
use Rattle.traffic.proofs.State.generate.Goals as goal

pub returns : goal.returns
returns c = let S = c.write_stream.ensures in (last_state c.args.self.within S, lanes_frame c.write_lanes.array_long c.write_lanes.ensures S)
