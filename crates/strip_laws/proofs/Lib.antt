-- Theorems that rest on definitions which must-fail/ edits.
pub mod Beside
pub mod BesideCommands
pub mod BesideData
pub mod BesideFrames
pub mod BesideRegisters
pub mod BesideSends
pub mod Packets
pub mod StripsAlike
pub mod StripsUsed
