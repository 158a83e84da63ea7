-- What the functions over a packet's bytes ask of its pages and of memory, and what a stored frame is.
pub mod Room
