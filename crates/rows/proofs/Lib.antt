-- Laws of the rows.
pub mod Summed
pub mod Rows
pub mod Blocks
