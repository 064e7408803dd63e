-- Laws of what a sender sends and refuses that no one function owns.
pub mod Runs
pub mod States
pub mod Turns
pub mod Entry
pub mod Multiblocks
