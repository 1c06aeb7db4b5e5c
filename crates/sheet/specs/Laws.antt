pub mod Lists
pub mod Lowest
pub mod Outcomes
pub mod Readings
pub mod Headers
pub mod Refusals
pub mod Examples
