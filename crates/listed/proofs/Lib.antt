-- Theorems that rest on definitions which must-fail/ edits.
pub mod Convert
pub mod History
pub mod Same
