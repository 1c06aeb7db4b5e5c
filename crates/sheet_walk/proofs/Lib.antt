-- What the walks meet.
pub mod Skipping
