-- The record of page lists, and that it and the lent state describe the same chip in every step.
pub mod Record
pub mod Promise
pub mod Lists
pub mod Words
pub mod Fifos
pub mod Convert
pub mod Same
pub mod History
