-- Queues in lent parts.
pub mod Slots
pub mod Parts
pub mod Changes
