-- The laws of the definitions in specs/, on which the crates above go.
pub mod Laws
