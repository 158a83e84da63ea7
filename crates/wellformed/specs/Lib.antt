-- What well-formedness needs and gives, over any number of pages n: what the code cites of it stands here, below the code.
-- Going by the cases of the rules.
pub mod Cases
-- Pages: good lists stay good, and free pages with owned ones are all of them.
pub mod Pages
pub mod Count
-- Both layouts: pages that a packet takes are nobody's, and what is free and what packets have are all.
pub mod Layouts
-- Refusal 16 is given exactly where the memory has another length or the chip is not well formed.
pub mod Fit
-- The two parts (document 02, W9): a step is that of the part that the chip is.
pub mod Parts
-- Each step keeps a chip well formed; power-up is.
pub mod Pool
pub mod Settle
pub mod Frames
pub mod Keeps
