pub mod Tables
pub mod Folded
pub mod Digits
