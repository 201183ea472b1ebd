pub mod Decimal
pub mod Writing
pub mod Lengths
pub mod Examples
pub mod Determined
