pub mod Lending
pub mod Ticks
