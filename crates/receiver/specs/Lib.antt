-- What a receiver releases, and what it refuses.
pub mod Release
pub mod Totals
pub mod Refusal
pub mod Entry
pub mod inner
