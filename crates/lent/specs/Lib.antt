-- What the functions of this crate promise, and that each leaves one result.
pub mod Lent
pub mod Once
