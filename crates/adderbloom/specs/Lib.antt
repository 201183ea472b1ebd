pub mod definitions
