-- The client's three demands and what document 02 promises beside them, of the rules and of the code, over a part's number of packets. Read `Demands` first: it names what else there is to read. That they hold is in proofs/, and there each part, with its number.
pub mod Boards
pub mod Entries
pub mod OfCode
pub mod BesideCode
pub mod LinkOfCode
pub mod BlindCode
pub mod Demands
