-- The words of MIR, of the heads and of interrupt status as the rules' reads.
pub mod Reading
