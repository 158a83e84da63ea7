-- Proofs that belong to no one function.
pub mod Granting
