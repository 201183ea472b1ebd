pub mod Mapping
pub mod Frame
