-- What the rows hold.
pub mod Rows
