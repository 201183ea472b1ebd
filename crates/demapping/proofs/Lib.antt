pub mod Gathering
pub mod Determined
