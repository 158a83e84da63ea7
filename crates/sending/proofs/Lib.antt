pub mod Head
pub mod Addressed
