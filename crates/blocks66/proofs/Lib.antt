-- Laws of 66-bit blocks that no one function owns.
pub mod Packing
