-- Laws that the proofs of the functions cite.
pub mod Asks
pub mod Answered
