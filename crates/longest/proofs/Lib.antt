-- Laws of the longest run: the only one.
pub mod Spans
