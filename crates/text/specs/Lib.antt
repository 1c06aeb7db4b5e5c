pub mod Digits
pub mod Pieces
pub mod Buffers
pub mod Cases
