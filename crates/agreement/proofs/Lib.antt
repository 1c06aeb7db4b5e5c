-- What the proof of `both` uses.
pub mod Agreeing
