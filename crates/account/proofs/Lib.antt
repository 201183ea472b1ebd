pub mod Limits
pub mod AcceptedEntry
pub mod VerdictMeaning
pub mod Fill
pub mod Totals
pub mod Kept
pub mod Determined
pub mod Empty
