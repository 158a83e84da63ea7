-- What a run of steps of the bench promises, and what is printed for it.
pub mod Batch
pub mod Rooms
pub mod Printed
pub mod Alone
pub mod Once
