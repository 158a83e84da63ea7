-- The digits of a printed line, a record number with its digits, the line in parts, and that each function has one result.
pub mod Decimal
pub mod Word
pub mod Counting
pub mod Parts
pub mod Once
