-- What the loop over the bytes of a section uses.
pub mod Fields
