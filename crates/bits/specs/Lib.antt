-- Laws of the rules' bits, for those who call the functions of this crate.
pub mod Laws
