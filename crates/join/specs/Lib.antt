pub mod Joined
pub mod Bytes
pub mod Calls
pub mod Runs
pub mod Cases
