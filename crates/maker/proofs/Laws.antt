pub mod Making
pub mod Queue
pub mod Schedules
pub mod Calls
pub mod Cases
