-- What a packet's home asks of memory.
pub mod Rooms
