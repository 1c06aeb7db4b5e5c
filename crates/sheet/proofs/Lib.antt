-- What the proofs of several functions, here and in the crates above, use.
pub mod Table
pub mod Laws
