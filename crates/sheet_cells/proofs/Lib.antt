-- The starting bytes of cells, for the proofs here and in the crates above.
pub mod Starting
