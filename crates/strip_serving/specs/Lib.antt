-- Record 1, which may ask for the part.
pub mod First
