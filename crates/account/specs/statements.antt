pub mod Kept
pub mod Fill
