pub mod Hunt
