-- The rule of a table of powers of x.
pub mod Powers
