-- What the proofs of several functions use.
pub mod Counting
pub mod Machines
pub mod Walking
pub mod Relating
