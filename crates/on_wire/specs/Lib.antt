-- What the functions of this crate promise, and what both chips conclude from it.
pub mod PutsOut
pub mod Data
