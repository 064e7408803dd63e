-- What a sender sends, and what it refuses.
pub mod Lane
pub mod Refusal
pub mod Entry
