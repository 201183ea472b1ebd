pub mod Levels
pub mod Table5
pub mod Pilots
