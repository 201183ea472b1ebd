pub mod Account
pub mod Kept
