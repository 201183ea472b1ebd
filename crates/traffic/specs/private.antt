pub mod Stream
pub mod Lanes
pub mod Counting
