pub mod Boards
pub mod Parts
pub mod Marks
pub mod Serving
pub mod Ticks
pub mod Runs
pub mod Isolation
pub mod Cases
