-- Laws that the proofs of the functions cite.
pub mod Hex
pub mod Packed
pub mod Parts
pub mod Bytes
