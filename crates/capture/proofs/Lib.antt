pub mod Cases
pub mod Found
pub mod Local
pub mod One
pub mod Records
pub mod Determined
pub mod Examples
