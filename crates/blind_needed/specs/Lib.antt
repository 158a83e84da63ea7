-- Why document 02's W10 asks what it asks, which sends it covers, and a history that it is about: computed examples, in a crate of their own for their time. No code rests on it.
pub mod BlindNeeded
pub mod BlindPrivate
pub mod BlindUsed
