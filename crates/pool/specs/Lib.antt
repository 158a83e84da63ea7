-- Changes of the queues, and the pool emptied.
pub mod Queues
pub mod Fifos
pub mod Figures
pub mod Once
