-- The laws that the proofs of several functions cite.
pub mod Putting
pub mod Spelling
pub mod Laws
