-- What a frame is judged by, and what the verdict stands for.
pub mod Frames
pub mod Verdicts
