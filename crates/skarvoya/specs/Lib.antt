-- What the functions that C links promise: of the chip, and of a record of the bench. How it follows from what the steps promise, what records print one after another, and that
-- each function leaves one result.
pub mod Calls
pub mod Called
pub mod Records
pub mod Recorded
pub mod Run
pub mod Once
