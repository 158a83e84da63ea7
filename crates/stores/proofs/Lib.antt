-- Proofs that belong to no one function.
pub mod InStrips
