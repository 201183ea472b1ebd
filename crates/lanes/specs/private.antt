pub mod Blocks
pub mod Stream
