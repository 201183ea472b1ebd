pub mod Levels
pub mod Table4
pub mod Lock
pub mod Blocks
pub mod Determined
