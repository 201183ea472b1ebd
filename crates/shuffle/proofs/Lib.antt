pub mod Rotating
pub mod Rows
pub mod Places
pub mod Determined
