-- What the proofs of several functions use.
pub mod Sets
pub mod Noting
pub mod Steps
pub mod Calling
pub mod Laws
