-- What the proofs of several functions use.
pub mod Passing
pub mod Stepping
pub mod Walking
pub mod Finding
