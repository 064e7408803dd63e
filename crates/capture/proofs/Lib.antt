-- Laws of captures, their listings and their messages that no one function owns.
pub mod Refusals
pub mod Answers
pub mod Received
pub mod Short
pub mod Channel
pub mod Told
