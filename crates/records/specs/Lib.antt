-- What records stand for, what gathering wire bytes promises, and that each function has one result.
pub mod Event
pub mod Gathers
pub mod Once
