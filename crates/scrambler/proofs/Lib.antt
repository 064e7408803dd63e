-- Laws of scrambling that no one function owns.
pub mod Scrambling
pub mod Blocks
