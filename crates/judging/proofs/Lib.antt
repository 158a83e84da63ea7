-- What the proofs of a judgement share.
pub mod Places
pub mod Facts
