pub mod Mend
pub mod Word
