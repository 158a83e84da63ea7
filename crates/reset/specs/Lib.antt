-- What a reset promises, and power-up.
pub mod Promises
pub mod Power
