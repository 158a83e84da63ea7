-- Theorems that rest on definitions which must-fail/ edits.
pub mod BlindFrames
pub mod BlindSends
pub mod Blindness
pub mod PrivateKept
