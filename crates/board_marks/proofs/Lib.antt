-- What the proofs of several functions use.
pub mod Bytes
pub mod Ring
