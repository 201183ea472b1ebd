pub mod definitions
pub mod private
