-- Theorems that rest on definitions which must-fail/ edits.
pub mod Balance
pub mod Exchange
pub mod Fcs
pub mod LinkPlaces
pub mod LinkReads
pub mod LinkSteps
pub mod Loading
pub mod Loads
pub mod Merge
pub mod PutOut
pub mod Refusals
pub mod Theorems
pub mod Told
pub mod Waiting
