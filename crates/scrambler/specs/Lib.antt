-- What is sent for a user's bits, and what they are read back from.
pub mod Scrambling
