-- What the proofs of several functions use.
pub mod Splices
pub mod Standing
pub mod Anew
pub mod Resting
pub mod Steps
pub mod Advancing
pub mod Machines
