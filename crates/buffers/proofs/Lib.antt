-- What the proofs of several functions use.
pub mod Tests
pub mod Cells
