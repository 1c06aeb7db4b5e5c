-- What a passed check and passed buffers mean for `given_of`.
pub mod Passing
pub mod Standing
pub mod Keeping
pub mod Granting
