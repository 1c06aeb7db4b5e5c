-- The laws that the proofs of the functions that make the names, and change what is ahead, cite.
pub mod Numbers
pub mod Naming
