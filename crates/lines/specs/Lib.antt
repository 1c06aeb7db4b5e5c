pub mod Lines
pub mod Buffers
pub mod Cases
