pub mod Frames
pub mod Steps
pub mod Walk
pub mod Coming
pub mod Reading
pub mod Stops
pub mod Remaining
pub mod Determined
