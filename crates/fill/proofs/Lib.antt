-- Laws of fill bits that no one function owns.
pub mod Registers
pub mod Table38
