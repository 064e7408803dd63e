-- What private functions promise to each other. No public promise cites it.
pub mod Wrote
pub mod Tellable
