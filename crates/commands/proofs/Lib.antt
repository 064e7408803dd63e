-- Why the promises hold.
pub mod Table
pub mod Channel
pub mod Commands
pub mod Refusals
pub mod Entry
pub mod Spoken
pub mod InARow
pub mod OneByOne
pub mod Found
pub mod Answers
pub mod Progress
pub mod Digits
pub mod Back
pub mod Within
pub mod OneEncoding
pub mod Promised
pub mod OneAnswer
