-- Laws of 80-bit blocks that no one function owns.
pub mod Tens
