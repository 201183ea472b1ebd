pub mod Mapping
pub mod Frame
pub mod Dibits
