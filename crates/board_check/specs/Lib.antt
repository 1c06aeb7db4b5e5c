pub mod Found
pub mod Steps
pub mod Laws
