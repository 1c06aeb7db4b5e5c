-- What the proofs of several functions use.
pub mod Steps
pub mod Noting
pub mod Locating
pub mod Drawing
