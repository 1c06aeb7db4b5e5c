-- What the proofs of several functions use.
pub mod Leaves
pub mod Putting
