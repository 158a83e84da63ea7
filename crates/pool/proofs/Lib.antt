-- Proofs that belong to no one function.
pub mod Marks
pub mod Changes
