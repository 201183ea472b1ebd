pub mod Bits
pub mod Words
pub mod Put
pub mod Call
