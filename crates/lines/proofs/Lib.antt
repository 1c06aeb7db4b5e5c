-- The law that the proofs of all functions cite.
pub mod Holding
