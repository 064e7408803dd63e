-- What the two locks do with each header, which states they accept, and runs of them.
pub mod HeaderTable
pub mod ExtendedTable
pub mod Table
pub mod Ranges
pub mod Refusals
pub mod Run
pub mod Stream
