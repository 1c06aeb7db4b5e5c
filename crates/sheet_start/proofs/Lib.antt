-- The starting bytes, and a sheet that the check passes.
pub mod Starting
pub mod Passing
