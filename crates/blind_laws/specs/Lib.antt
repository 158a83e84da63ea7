-- What the promise of document 02, W10, rests on; `demands` states it. The modules tell the story in this order. No code rests on this crate.
-- The promise.
pub mod Alike
-- Its heart: no register access but a data read looks at memory; what a frame decides depends only on its length, first six bytes, verdict and alignment; and what a send decides only on bytes 2 to 9 and the control byte.
pub mod BlindAccesses
pub mod BlindSends
-- The promise, of every step and of runs from power-up on, is `Blindness` of proofs/, and what is said of a frame `BlindFrames` there.
-- A premise of one run alone: no send looks at a byte that came from a frame's payload.
pub mod Puts
pub mod Private
pub mod PrivateKept
