-- Facts for the records at hand.
pub mod Runs
pub mod Forms
