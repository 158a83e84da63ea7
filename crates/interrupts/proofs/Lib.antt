-- Proofs that belong to no one function.
pub mod Queues
pub mod Flags
pub mod Share
pub mod Latches
pub mod Acknowledge
