-- What the proof of `instant` uses.
pub mod Passing
