pub mod definitions
pub mod statements
