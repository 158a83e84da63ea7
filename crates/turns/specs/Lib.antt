-- What one step of the bench promises, of either chip; how it follows from what the chip's steps promise; that it leaves one result; a record served with its line, and records
-- served one after another.
pub mod Turns
pub mod Steps
pub mod Once
pub mod Served
pub mod Printed
