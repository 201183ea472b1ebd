pub mod Places
pub mod Symbols
pub mod Return
pub mod Determined
