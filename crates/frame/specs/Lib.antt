-- Where each bit stands: modes, headers, sync words, blocks and multiblocks.
pub mod Modes
pub mod Headers
pub mod Lane
pub mod SyncWord
