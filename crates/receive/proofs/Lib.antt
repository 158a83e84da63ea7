-- What the proofs of an arrival share.
pub mod Facts
pub mod Storing
