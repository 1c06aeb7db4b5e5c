pub mod Reaching
pub mod Making
pub mod Cases
pub mod Placing
pub mod Queue
