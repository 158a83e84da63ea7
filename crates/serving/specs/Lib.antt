-- What the bench asks of a read, and what it holds.
pub mod Bench
pub mod Fills
