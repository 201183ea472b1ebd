pub mod definitions
pub mod statements
pub mod private
