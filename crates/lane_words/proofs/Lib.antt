pub mod LaneWords
pub mod Joining
pub mod Thirds
pub mod Determined
