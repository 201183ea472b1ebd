pub mod Determined
pub mod Lists
pub mod Entries
