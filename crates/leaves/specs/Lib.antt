pub mod Words
pub mod Leaves
