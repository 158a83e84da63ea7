-- What the promise of document 02, W3, rests on; `demands` states it. The modules tell the story in this order. No code rests on this crate.
-- Document 02, W3, the chip of strips beside the paged one: which bytes are written, and the promise.
pub mod Written
pub mod Strips
-- Packets of two chips that stay alike, whatever their layouts: how many pages each has, pages given back and granted, bytes put and read.
pub mod SameCounts
pub mod Packets
-- Each input on two chips beside each other; that the two answer alike is in proofs/.
pub mod Beside
pub mod BesideData
-- The promise, from power-up on; why it asks what it asks, and a history that it is about.
pub mod StripsAlike
pub mod StripsNeeded
pub mod StripsUsed
