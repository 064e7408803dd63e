-- Laws of bits that no one function owns.
pub mod Choice
pub mod Xor
pub mod Additive
pub mod Numbers
pub mod Ones
pub mod Lists
pub mod Words
pub mod Tests
pub mod Laid
pub mod Octets
pub mod WordLists
pub mod Writing
pub mod Refusals
pub mod Bounds
pub mod Blocks
