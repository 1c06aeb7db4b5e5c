pub mod Map
pub mod Sets
