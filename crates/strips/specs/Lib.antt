-- What the functions of this crate test.
pub mod Counts
pub mod Asked
pub mod Data
