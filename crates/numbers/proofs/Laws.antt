-- Laws that stand beside the definitions of specs/ and are proved here.
pub mod Nearest
