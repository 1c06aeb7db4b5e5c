-- How the storing of a memory goes on.
pub mod Storing
