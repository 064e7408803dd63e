-- The form of a capture, and the text of its listing.
pub mod Form
pub mod Listing
pub mod Messages
pub mod inner
