pub mod Places
pub mod Stream
pub mod Figures
