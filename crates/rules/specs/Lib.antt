-- Document 01 as definitions over numbers and lists, a module for each of its parts. No type of the code stands here.
-- Read them in this order, beside the paper; `Fields` (setters) and `Tests` (the clauses once more) may be skipped.
-- Words that all parts use.
pub mod Bits
pub mod Lists
-- The two parts (document 02, W9).
pub mod Parts
-- "What the model holds"
pub mod Chip
pub mod Fields
pub mod WellFormed
pub mod Tests
-- "Numbers the bench prints"
pub mod Answers
-- "Registers", "MMU commands": a packet's bytes, commands, interrupts, the link (document 02, W8), data, then each register
pub mod Packet
pub mod Mmu
pub mod Interrupts
pub mod Link
pub mod Data
pub mod Registers
-- "A frame arrives", "A send finishes"
pub mod Crc
pub mod Receive
pub mod Send
-- One step for every input, and histories.
pub mod Step
-- "Bench program and its records"
pub mod Bench
-- Not in document 01: what the program "watch" prints.
pub mod Watch
