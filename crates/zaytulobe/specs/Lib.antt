-- What the entries promise to callers in C, and the states as numbers beneath.
pub mod Sending
pub mod Receiving
pub mod Locking
pub mod Running
pub mod Events
pub mod Counts
pub mod Receivers
pub mod Locks
pub mod Bool
