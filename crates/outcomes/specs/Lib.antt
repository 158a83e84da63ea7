-- What the functions of this crate promise, in the words of the rules' `Send`.
pub mod Numbers
pub mod Sent
pub mod Retired
