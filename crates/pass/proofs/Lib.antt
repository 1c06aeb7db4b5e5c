-- How a pass goes on.
pub mod Passing
