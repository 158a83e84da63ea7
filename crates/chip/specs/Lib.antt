-- What a driver's request stands for in `rules`, and from what a step makes to what an entry promises.
pub mod Inputs
pub mod Rights
