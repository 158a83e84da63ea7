-- Theorems that rest on definitions which must-fail/ edits.
pub mod Fit
pub mod Keeps
pub mod Parts
pub mod Settle
