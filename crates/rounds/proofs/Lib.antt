-- What the proofs of several functions use.
pub mod Wires
pub mod Rounding
pub mod Finishing
