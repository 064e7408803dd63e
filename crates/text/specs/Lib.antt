-- Numbers and lines as text, and the text of a listing.
pub mod Text
pub mod Writing
pub mod Messages
pub mod inner
