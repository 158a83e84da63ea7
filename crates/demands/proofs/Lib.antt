-- That the demands hold: the theorems of `Demands`, over a part's number of packets, which each part cites with its own; and what leads to them.
pub mod BesideCode
pub mod BlindCode
pub mod Boards
pub mod Demands
pub mod Lan91c94
pub mod Lan91c96
pub mod LinkOfCode
pub mod OfCode
