-- What the functions of this crate promise.
pub mod Orders
-- What each command does, and how it is shown of a state: in both layouts.
pub mod Steps
pub mod Returns
