-- Command words and messages: what is written, what is read, and what is promised of both.
pub mod Words
pub mod Table51
pub mod Writing
pub mod Reading
pub mod Promises
