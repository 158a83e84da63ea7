-- What a read promises.
pub mod Reads
