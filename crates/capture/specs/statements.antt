pub mod Local
pub mod Records
pub mod Examples
