pub mod Permutation
pub mod Interleaver
pub mod Stream
