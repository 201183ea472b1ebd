pub mod LaneWords
