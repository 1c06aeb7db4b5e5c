-- What the proofs of several functions use.
pub mod Raising
pub mod Putting
pub mod Shifting
pub mod Cutting
pub mod Answering
