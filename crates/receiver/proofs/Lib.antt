-- Laws of what the receiver releases.
pub mod Refusals
pub mod Cut
pub mod Carried
pub mod Totalled
pub mod Ignored
pub mod Bare
pub mod Counts
pub mod Verdicts
pub mod Accepted
pub mod Buffers
pub mod Hearing
pub mod Turns
pub mod Answers
pub mod Afresh
pub mod Numbered
