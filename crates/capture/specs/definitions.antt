pub mod Read
pub mod Capture
pub mod Examples
