-- What is proved of the definitions.
pub mod Finished
