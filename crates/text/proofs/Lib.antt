-- Laws of text that no one function owns.
pub mod Decimal
pub mod Names
pub mod Wrote
pub mod Releases
pub mod Refusals
pub mod Told
pub mod Events
pub mod Short
