-- Proofs that belong to no one function.
pub mod Bytes
pub mod Words
pub mod Nibbles
