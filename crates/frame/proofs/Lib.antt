-- Laws of headers, sync words, blocks and multiblocks that no one function owns.
pub mod SyncWord
pub mod Groups
pub mod Fields
pub mod Lane
pub mod Gathering
pub mod Sizes
pub mod Places
pub mod Reading
pub mod Rows
pub mod Seen
