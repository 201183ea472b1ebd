pub mod Patterns
pub mod Distance
pub mod Lookups
pub mod Rows
pub mod Theorems
pub mod Determined
