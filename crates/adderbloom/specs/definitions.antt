pub mod Entry
pub mod Found
pub mod Record
pub mod Run
