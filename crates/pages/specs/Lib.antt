-- Changes of the page sets.
pub mod Pages
pub mod Figures
pub mod Once
