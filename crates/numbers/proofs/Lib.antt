-- The laws that the proofs of several functions, or of long ones, cite.
pub mod Bits
pub mod Results
pub mod Laws
