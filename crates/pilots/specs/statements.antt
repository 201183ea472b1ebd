pub mod Levels
pub mod Pilots
