-- What calls answer, as numbers.
pub mod Numbers
