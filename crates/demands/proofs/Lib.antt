-- Why the promises hold.
pub mod Pairs
pub mod Places
pub mod Wrong
pub mod Heard
pub mod Sent
pub mod Delivered
pub mod Released
pub mod Locks
pub mod Dozen
pub mod Promised
