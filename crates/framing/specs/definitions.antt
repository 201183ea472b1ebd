pub mod Places
pub mod Send
pub mod Receive
pub mod Stream
pub mod Figures
