-- What the functions of this crate promise, in the words of the rules' `Send`.
pub mod Sends
-- The chip after each part, and a send with its tests answered: in both layouts.
pub mod After
pub mod Laws
