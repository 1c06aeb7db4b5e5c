-- Laws that stand beside the definitions of specs/ and are proved here.
pub mod Checked
pub mod Memory
pub mod Reads
pub mod Typing
pub mod Wires
