-- Laws of verdicts and repairs.
pub mod Mending
pub mod Verdicts
pub mod Judging
