pub mod Found
pub mod Find
pub mod Pieces
