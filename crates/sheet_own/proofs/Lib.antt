-- What the proofs of several functions use.
pub mod Nodes
pub mod Last
