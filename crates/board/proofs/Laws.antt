-- What is proved of the definitions.
pub mod Marks
pub mod Boards
pub mod Parts
pub mod Passing
pub mod Serving
pub mod Ticks
pub mod Isolation
pub mod Service
pub mod Again
pub mod Refusals
