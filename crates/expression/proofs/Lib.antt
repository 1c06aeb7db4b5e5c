-- What the proofs of several functions use.
pub mod Rows
pub mod Views
pub mod Values
pub mod Giving
pub mod Machines
pub mod Answers
