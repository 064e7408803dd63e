-- What holds of the numbers of refusal.
pub mod Numbers
