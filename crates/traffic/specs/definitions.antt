pub mod Register
pub mod Traffic
pub mod Checker
pub mod Figures
