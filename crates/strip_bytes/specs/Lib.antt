-- Where a strip's bytes lie in memory, and what the functions over them ask.
pub mod Strip
