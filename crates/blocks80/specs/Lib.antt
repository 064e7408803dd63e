-- What the functions on 80-bit blocks promise to each other.
pub mod inner
