pub mod Places
pub mod Sending
pub mod Receiving
pub mod Stream
pub mod Received
pub mod Figures
pub mod Determined
pub mod Empty
