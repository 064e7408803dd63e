-- Laws of the two locks: the bound first, then what it rests on.
pub mod Bound
pub mod Words
pub mod Kept
pub mod Runs
pub mod Accepted
pub mod HeaderRange
pub mod ExtendedRange
pub mod Follow
pub mod Ends
pub mod Window
pub mod Matches
pub mod HeaderRows
pub mod ExtendedRows
pub mod OneAnswer
