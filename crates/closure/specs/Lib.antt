pub mod Closures
pub mod Laws
