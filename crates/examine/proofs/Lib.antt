pub mod Buffer
pub mod Known
pub mod Report
pub mod SoFar
