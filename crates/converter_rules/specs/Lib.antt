-- Document 02, W11, as definitions over document 01's chip: the driver for the protocol converter. What a reader has to believe of it; no type of the code stands here.
-- The accesses that the driver makes, and accesses one after another.
pub mod Accesses
-- Its four calls: start, offer, drain, and being told of a failed send.
pub mod Calls
-- The driver alone on its chip: what may happen, and histories.
pub mod Boards
-- The program "converter_bench".
pub mod Program
