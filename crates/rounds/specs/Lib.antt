pub mod Due
pub mod Running
pub mod Settled
pub mod Outputs
