-- What the functions of this crate test.
pub mod Zeros
pub mod Sums
pub mod Pass
pub mod Queues
pub mod Parts
pub mod Asked
