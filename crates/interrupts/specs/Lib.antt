-- What an acknowledge promises.
pub mod Promises
