pub mod Register
pub mod Traffic
pub mod Checker
pub mod Refusals
pub mod Figures
