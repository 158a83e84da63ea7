-- What the parts of an arrival ask and promise.
pub mod Arrivals
-- An arrival by its verdict, and a frame that is to be stored: in both layouts.
pub mod Arrives
pub mod Storing
