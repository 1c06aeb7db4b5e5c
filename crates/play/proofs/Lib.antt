-- The laws that the proofs of several functions cite.
pub mod Giving
pub mod Sheet
pub mod Instants
