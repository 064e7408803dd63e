-- The longest run of multiblocks with status 0 or 1.
pub mod Longest
